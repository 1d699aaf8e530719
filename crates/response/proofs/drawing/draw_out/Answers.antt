use Rattle.std.proofs.Common.{◌∙◌}
use Rattle.response.proofs.Draws.{last_draw, one_draw_more, survey_takes_word}
use Rattle.response.proofs.drawing.draw_out.Goals as goal

pub returns-in-Err-clause-drawn : goal.returns-in-Err-clause-drawn
returns-in-Err-clause-drawn g c =
    last_draw g.D.Design g.S.Source c.args.survey.now c.loop-fault.survey c.draw.new.self c.draw.result c.in-Err.fault c.in-Err.is c.draw.ensures.answer c.draw.ensures.after c.loop-fault.invariant.0

pub loop-fault-smaller : goal.loop-fault-smaller
loop-fault-smaller g c =
    survey_takes_word g.D.Design g.S.Source c.loop-fault.survey c.draw.new.self c.draw.result c.in_default.field-0 c.in_default.is c.draw.ensures.answer c.draw.ensures.after

pub loop-fault-preserved : goal.loop-fault-preserved
loop-fault-preserved g c =
    (one_draw_more g.D.Design g.S.Source c.args.survey.now c.loop-fault.survey c.draw.new.self c.draw.result c.in_default.field-0 c.in_default.is c.draw.ensures.answer c.draw.ensures.after c.loop-fault.invariant.0, c.draw.ensures.settings ∙ c.loop-fault.invariant.1)
