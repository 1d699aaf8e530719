use Rattle.std.proofs.Common.{Bool, false, List, get_or, ap, ◌∙◌, arith}
use Rattle.parts.specs.Running.{run_from}
use Rattle.design.specs.Plans.{nothing}
use Rattle.series.specs.Of.{IsIntact, plans, standing, tables_of}
use Rattle.series.proofs.Moves.{moved_trans, same_trans, same_taken, none_taken, run_fresh, ready_taken}
use Rattle.series.proofs.Series.start.Goals as goal

pub returns : goal.returns
returns g c =
    let s = c.args.self.now in
    let e = c.enter_first.new.self in
    let x = c.settle.new.self in
    let v = tables_of s in
    let B = plans g.D.Design s in
    let taken = c.fill.new.self in
    let cleared = c.fill.ensures.filled (omega arith) in
    record {
      same = same_trans v (tables_of e) (tables_of x) (same_taken v taken (tables_of e) c.enter_first.ensures.same) c.settle.ensures.same;
      settings = c.settle.ensures.settings ∙ c.enter_first.ensures.settings;
      started = λ h.
          let m = c.in_ok-enter_first.ensures.entered (ready_taken B v (g.D.Design.tree s.below) taken h)
          (λ k l. ap (λ (xs : List Bool). get_or xs k false) cleared ∙ none_taken c.units-units.result k) in
          moved_trans c.settle.result (IsIntact g.D.Design x) (standing g.D.Design x) (standing g.D.Design e) (run_from B v 0 nothing) (c.settle.ensures.settled m.0)
          (m.1 ∙ run_fresh B v taken c.units-units.result cleared);
    }

pub returns-in_err-enter_first-clause-started : goal.returns-in_err-enter_first-clause-started
returns-in_err-enter_first-clause-started g c h =
    let s = c.args.self.now in
    let cleared = c.fill.ensures.filled (omega arith) in
    absurd (c.in_err-enter_first.ensures.entered (ready_taken (plans g.D.Design s) (tables_of s) (g.D.Design.tree s.below) c.fill.new.self h)
    (λ k l. ap (λ (xs : List Bool). get_or xs k false) cleared ∙ none_taken c.units-units.result k))
