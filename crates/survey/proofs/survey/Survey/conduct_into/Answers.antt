use Rattle.std.proofs.Common.{refl, length, ◌∙◌, arith}
use Rattle.std.proofs.Math.ListN.{take}
use Rattle.std.proofs.lemmas.List.{drop-set-lt}
use Rattle.survey.specs.Conducting.{rules_of, with_totals, placed, answered}
use Rattle.survey.proofs.CallLists.{next_call, has_place, all_made, all_as}
use Rattle.survey.proofs.survey.Survey.conduct_into.Goals as goal

pub loop-i-preserved : goal.loop-i-preserved
loop-i-preserved g c =
    let calls = c.args.calls.now in
    let k = c.min.result in
    let i = c.loop-i.i in
    let inv = c.loop-i.invariant in
    let place = has_place calls c.args.answers.now k c.min.ensures i c.loop-i-test.true in (
      c.ask.ensures.settings ∙ inv.0,
      drop-set-lt (length calls) c.loop-i.answers i c.ask.result place.0 ∙ inv.1,
      next_call g.D.Design g.S.Source g.L.Ledger (take k calls) i c.index-placed-i.result c.loop-i.answers _ c.ask.result
          c.args.self.now c.args.ledger.now c.loop-i.self c.loop-i.ledger c.ask.new.self c.ask.new.ledger c.loop-i-test.true (omega (arith, place.1, c.loop-i.auto.answers)) c.index-placed-i.is refl inv.2
          c.ask.ensures,
    )

pub returns-clause-each : goal.returns-clause-each
returns-clause-each g c =
    all_made g.D.Design g.S.Source g.L.Ledger c.args.calls.now c.args.answers.now c.loop-i.answers c.min.result c.loop-i.i c.args.self.now c.args.ledger.now c.loop-i.self c.loop-i.ledger
    c.min.ensures c.loop-i.auto.answers (omega (arith, c.loop-i-test.false, c.loop-i.auto.i-end)) c.loop-i.invariant.2

pub returns-clause-all : goal.returns-clause-all
returns-clause-all g c st m =
    let old = c.args.self.now in
    let calls = c.args.calls.now in
    all_as g.D.Design g.S.Source g.L.Ledger (placed calls c.args.answers.now) (answered calls c.loop-i.answers) old c.args.ledger.now c.loop-i.self c.loop-i.ledger (rules_of g.D.Design g.L.Ledger old)
    (with_totals g.L.Ledger st c.args.ledger.now)
    (all_made g.D.Design g.S.Source g.L.Ledger calls c.args.answers.now c.loop-i.answers c.min.result c.loop-i.i old c.args.ledger.now c.loop-i.self c.loop-i.ledger
    c.min.ensures c.loop-i.auto.answers (omega (arith, c.loop-i-test.false, c.loop-i.auto.i-end)) c.loop-i.invariant.2) refl refl m
