use Rattle.std.proofs.Common.{◌≡◌, ◌∙◌, Err, Global, Vec, length, sym, ap, subst, arith}
use Rattle.std.proofs.lemmas.List.{length-map}
use Rattle.std.proofs.lemmas.Result.{err_from_is_err_and}
use Rattle.design.specs.Faults.{numbered}
use Rattle.design.specs.Fractions.{Fraction}
use Rattle.survey.specs.Means.{plans, words}
use Rattle.plain_survey.specs.Calls.{first_run, share_now, start_after, start_refusal}
use Rattle.plain_survey.specs.States.{PlainRun}
use Rattle.frame_file.specs.declared.frame.FrameUnit.{FrameUnit}
use Rattle.response.specs.Failures.{Prints}
use Rattle.response.specs.Responses.{PrintsWith, refusal_line, run_text}
use Rattle.response.specs.Runs.{prescribed_shares, shares_now}
use Rattle.response.proofs.Failures.{only_memory, prints_got}
use Rattle.response.proofs.InOrder.{units_in_order}
use Rattle.response.proofs.Starts.{prescribed_first, stands_first, started}
use Rattle.response.proofs.Ends.{ended}
use Rattle.response.proofs.Printing.{at_outcome, at_refusal, on_list, prints_drawn}
use Rattle.response.proofs.sampling.sample.Goals as goal

pub returns-in_err-shares : goal.returns-in_err-shares
returns-in_err-shares g c =
    let P = plans g.D.Design c.args.survey.now in
    let ws = words g.S.Source c.args.survey.now in
    let list = c.deref.result.now in
    let n = c.args.frame.now.header.n in
    let start = started g.D.Design g.S.Source c.args.survey.now c.start.new.self list n ws c.in_ok-start.field-0 c.in_ok-start.ensures.answer c.in_ok-start.ensures.after c.in_ok-start.ensures.fair in
    let first = first_run (P list n) list n in
    let stands = stands_first g.D.Design g.S.Source c.start.new.self P list n ws start in
    let only = only_memory (λ (shares : Vec Fraction Global). shares.items ≡ shares_now (plans g.D.Design c.start.new.self) first) c.in_err-shares.field-0.0
    (c.in_err-shares.ensures first stands (c.len.ensures ∙ sym c.deref.ensures.len)) in
    let e = err_from_is_err_and c.from_residual-in_err-shares.result c.from_residual-in_err-shares.ensures.1 in
    subst (Prints (PrintsWith P ws c.args.frame.now)) (sym (e.1 ∙ ap Err (e.2 ∙ only))) tt

pub returns-then-not-is_outcome : goal.returns-then-not-is_outcome
returns-then-not-is_outcome g c =
    let P = plans g.D.Design c.args.survey.now in
    let f = c.args.frame.now in
    let ws = words g.S.Source c.args.survey.now in
    let list = c.deref.result.now in
    let n = c.args.frame.now.header.n in
    let x = c.draw_out-refusal.result in
    let start = started g.D.Design g.S.Source c.args.survey.now c.start.new.self list n ws c.in_ok-start.field-0 c.in_ok-start.ensures.answer c.in_ok-start.ensures.after c.in_ok-start.ensures.fair in
    let drawn = c.draw_out-refusal.ensures.drawn _ start.means in
    let out = refusal_line (numbered x) in
    let printed = at_refusal P f (numbered x) drawn.end.run (sym c.is_outcome.ensures ∙ c.if-not-is_outcome.true) in
    subst (λ e. Prints (PrintsWith P ws f) (Err e)) (sym c.from.ensures)
    (on_list P ws f list out (c.deref.ensures.value ∙ c.in_ok-rows.ensures)
    (prints_drawn g.D.Design g.S.Source c.draw_out-refusal.new.survey P f (start_after (P list n) list n ws) (start_refusal (P list n) list) x out start.unrefused drawn printed))

pub text_of-requires-clause-few : goal.text_of-requires-clause-few
text_of-requires-clause-few g c =
    let P = plans g.D.Design c.args.survey.now in
    let ws = words g.S.Source c.args.survey.now in
    let list = c.deref.result.now in
    let n = c.args.frame.now.header.n in
    let start = started g.D.Design g.S.Source c.args.survey.now c.start.new.self list n ws c.in_ok-start.field-0 c.in_ok-start.ensures.answer c.in_ok-start.ensures.after c.in_ok-start.ensures.fair in
    let first = first_run (P list n) list n in
    let stands = stands_first g.D.Design g.S.Source c.start.new.self P list n ws start in
    let shares = c.deref-2.ensures.value ∙ c.in_ok-shares.ensures first stands (c.len.ensures ∙ sym c.deref.ensures.len) in
    let many = units_in_order (length list) (share_now (plans g.D.Design c.start.new.self) first) c.deref-2.result.now shares in
    let listed = ap length (c.deref.ensures.value ∙ c.in_ok-rows.ensures) ∙ length-map c.args.frame.now.units (λ (u : FrameUnit). u.row) in
    omega (arith, many, listed, c.requires.count.1)

pub returns : goal.returns
returns g c =
    let P = plans g.D.Design c.args.survey.now in
    let f = c.args.frame.now in
    let ws = words g.S.Source c.args.survey.now in
    let list = c.deref.result.now in
    let n = c.args.frame.now.header.n in
    let x = c.draw_out-refusal.result in
    let last = c.draw_out-refusal.new.survey in
    let start = started g.D.Design g.S.Source c.args.survey.now c.start.new.self list n ws c.in_ok-start.field-0 c.in_ok-start.ensures.answer c.in_ok-start.ensures.after c.in_ok-start.ensures.fair in
    let first = first_run (P list n) list n in
    let stands = stands_first g.D.Design g.S.Source c.start.new.self P list n ws start in
    let drawn = c.draw_out-refusal.ensures.drawn _ start.means in
    let is = sym c.is_outcome.ensures ∙ c.if-not-is_outcome.false in
    let end = ended g.D.Design g.S.Source last P list n ws x g.met.D.Design.exact start.unrefused drawn is in
    let r : PlainRun = record { list = list; n = n; tree = end.tree } in
    let listed = c.deref.ensures.value ∙ c.in_ok-rows.ensures in
    let settings = c.draw_out-refusal.ensures.settings ∙ c.in_ok-start.ensures.settings in
    let ordered = c.deref-2.ensures.value ∙ c.in_ok-shares.ensures first stands (c.len.ensures ∙ sym c.deref.ensures.len) ∙ ap (λ Q. shares_now Q first) c.in_ok-start.ensures.settings
    ∙ prescribed_first P list n start.shares ∙ ap (λ Q. prescribed_shares Q r) (sym settings) in
    let text = run_text (plans g.D.Design last) f r in
    let printed = ap (λ Q. run_text Q f r) settings ∙ at_outcome P f (numbered x) drawn.end.run r end.run_is is in
    prints_got (PrintsWith P ws f) text c.text_of.result (c.text_of.ensures r (record { ends = end.ends; listed = listed }) ordered)
    (on_list P ws f list text listed (prints_drawn g.D.Design g.S.Source last P f (start_after (P list n) list n ws) (start_refusal (P list n) list) x text start.unrefused drawn printed))
