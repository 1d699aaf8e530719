use Rattle.std.proofs.Common.{◌≡◌, length, ap, ◌∙◌, subst, arith}
use Rattle.design.specs.Design.{ways_of}
use Rattle.design.specs.Plans.{Plans, nothing}
use Rattle.parts.specs.Copying.{Over}
use Rattle.parts.specs.Running.{all_parts, run_from}
use Rattle.layers.proofs.Stages.{fits_over}
use Rattle.series.specs.Of.{plans, tables_of}
use Rattle.series.proofs.Tabled.{counted}
use Rattle.two_stage.proofs.Settling.{ready_chosen, settled}
use Rattle.two_stage.proofs.first.settle.Goals as goal
use Rattle.std.proofs.Common.{sym}

pub returns-in_err-start-clause-settled : goal.returns-in_err-start-clause-settled
returns-in_err-start-clause-settled g c d =
    let u = d.underway in
    let s = c.args.second.now in
    let v = tables_of s in
    let st = g.A.Design.tree c.args.first.now in
    let B = plans g.B.Design s in
    let x = c.choose.new.self in
    let end : ways_of st ≡ 0 = omega (arith, c.ways.ensures, c.if-ways-gt0.false) in
    let count : length v.chosen ≡ length (all_parts v) = omega (arith, counted s.table) in
    let ch = c.choose.ensures.chosen (subst (Over st) (sym count) (fits_over B v st u.fits end)) in
    absurd (c.in_err-start.ensures.started (ready_chosen g.B.Design s x u.loaded d.at_first c.choose.ensures.below ch))

pub returns-clause-settled : goal.returns-clause-settled
returns-clause-settled g c d =
    let u = d.underway in
    let s = c.args.second.now in
    let v = tables_of s in
    let st = g.A.Design.tree c.args.first.now in
    let B = plans g.B.Design s in
    let x = c.choose.new.self in
    let y = c.start.new.self in
    let end : ways_of st ≡ 0 = omega (arith, c.ways.ensures, c.if-ways-gt0.false) in
    let count : length v.chosen ≡ length (all_parts v) = omega (arith, counted s.table) in
    let ch = c.choose.ensures.chosen (subst (Over st) (sym count) (fits_over B v st u.fits end)) in
    let same : plans g.B.Design x ≡ B = ap (λ d. g.B.Design.plan d) c.choose.ensures.below in
    let m = c.in_ok-start.ensures.started (ready_chosen g.B.Design s x u.loaded d.at_first c.choose.ensures.below ch) in
    settled B v st u end count (tables_of x) ch (plans g.B.Design y) (tables_of y) (g.B.Design.tree y.below)
    (c.start.ensures.settings ∙ same) c.start.ensures.same m.0 (m.1 ∙ ap (λ (P : Plans). run_from P (tables_of x) 0 nothing) same)
