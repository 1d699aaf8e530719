use Rattle.std.proofs.Common.{ℕ, Bool, List, refl, subst, arith}
use Rattle.design.specs.Design.{Began}
use Rattle.design.specs.declared.row.Row.{Row}
use Rattle.parts.specs.Running.{NextChosen, sample_of}
use Rattle.parts.proofs.Entering.{entered_none}
use Rattle.series.specs.Of.{tables_of}
use Rattle.series.proofs.Tabled.{counted}
use Rattle.series.proofs.Moves.{enter_part, stage_kept}
use Rattle.series.proofs.Series.enter.Goals as goal

pub returns-then-j-count : goal.returns-then-j-count
returns-then-j-count g c =
    let s = c.args.self.now in
    let t = s.table in
    let v = tables_of s in
    let j = c.next_set-j.result in
    let B = g.D.Design.plan s.below in
    let next = subst (λ (xs : List Bool). NextChosen xs c.args.from j) c.as_slice.ensures.items c.next_set-j.ensures in
    record {
      forward = next.low;
      same = stage_kept v j;
      settings = c.begin.ensures.settings;
      entered = λ h.
          enter_part B (g.D.Design.plan c.begin.new.self) (g.met.D.Design.sound s.below) v h.loaded
          t.taken_all t.chosen_all c.args.from j next h.none
          c.begin.result (g.D.Design.tree c.begin.new.self) (omega (arith, c.if-j-count.true, c.count.ensures, counted t))
          (subst (λ (list : List Row). Began (B list (sample_of v j)) c.begin.result (g.D.Design.tree c.begin.new.self)) c.part.ensures
          (subst (λ (n : ℕ). Began (B c.part.result.now n) c.begin.result (g.D.Design.tree c.begin.new.self)) c.sample.ensures c.begin.ensures.begun))
          c.begin.ensures.settings;
    }

pub returns-else-j-count : goal.returns-else-j-count
returns-else-j-count g c =
    let s = c.args.self.now in
    let t = s.table in
    let v = tables_of s in
    let j = c.next_set-j.result in
    let next = subst (λ (xs : List Bool). NextChosen xs c.args.from j) c.as_slice.ensures.items c.next_set-j.ensures in
    record {
      forward = next.low;
      same = stage_kept v j;
      settings = refl;
      entered = λ h.
          entered_none (g.D.Design.plan s.below) (g.met.D.Design.sound s.below) v h.loaded
          t.taken_all t.chosen_all c.args.from j next h.none
          {U = Unit {0}} tt (g.D.Design.tree s.below) (omega (arith, c.if-j-count.false, c.count.ensures, counted t));
    }
