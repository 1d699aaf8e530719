use Rattle.std.proofs.Common.{Ok, sym, subst}
use mathlib.Core.Logic.{∥∥₁_elim, ∥∥₁_map, ∥∥₁_prop}
use Rattle.design.specs.Design.{Stepped}
use Rattle.design.proofs.Once.{stepped_once}
use Rattle.series.specs.Of.{plans, tables_of, standing}
use Rattle.two_stage.specs.Of.{stands}
use Rattle.two_stage.specs.Stands.{stands_in, standing_at, IntactIn}
use Rattle.two_stage.specs.declared.Stage.{Stage}
use Rattle.two_stage.proofs.Stepping.{gone_first, stepped_first, stepped_second, whole_second}
use Rattle.two_stage.proofs.TwoStageDesign.step.Goals as goal

pub invariant_of-self-in-Break-branch-2 : goal.invariant_of-self-in-Break-branch-2
invariant_of-self-in-Break-branch-2 g c =
    let s = c.args.self.now in
    record {
      together = ∥∥₁_elim s.together ∥∥₁_prop
          (λ h.
          absurd (c.in_err-self-in-First.ensures.settled
          (gone_first s.stage (plans g.B.Design s.second) (tables_of s.second) (g.A.Design.tree s.first) (g.A.Design.tree c.step.new.self) (g.B.Design.tree s.second.below)
          c.args.d c.in-First.is h c.in_ok-step-in-First.ensures.stepped)));
    }

pub returns-in_err-self-in-First-clause-stepped : goal.returns-in_err-self-in-First-clause-stepped
returns-in_err-self-in-First-clause-stepped g c =
    let s = c.args.self.now in
    let now = standing_at g.A.Design g.B.Design s.stage c.step.new.self c.settle.new.second in
    ∥∥₁_elim s.together (stepped_once (stands g.A.Design g.B.Design s) c.args.d c.from_residual-in_err-self-in-First.result now)
    (λ h.
    absurd (c.in_err-self-in-First.ensures.settled
    (gone_first s.stage (plans g.B.Design s.second) (tables_of s.second) (g.A.Design.tree s.first) (g.A.Design.tree c.step.new.self) (g.B.Design.tree s.second.below)
    c.args.d c.in-First.is h c.in_ok-step-in-First.ensures.stepped)))

pub invariant_of-self-in-First : goal.invariant_of-self-in-First
invariant_of-self-in-First g c =
    let s = c.args.self.now in
    record {
      together = ∥∥₁_map s.together
          (λ h.
          (c.in_ok-self-in-First.ensures.settled
          (gone_first s.stage (plans g.B.Design s.second) (tables_of s.second) (g.A.Design.tree s.first) (g.A.Design.tree c.step.new.self) (g.B.Design.tree s.second.below)
          c.args.d c.in-First.is h c.in_ok-step-in-First.ensures.stepped)).0);
    }

pub returns-in_ok-self-in-First-clause-stepped : goal.returns-in_ok-self-in-First-clause-stepped
returns-in_ok-self-in-First-clause-stepped g c =
    let s = c.args.self.now in
    let B = plans g.B.Design s.second in
    let v = tables_of s.second in
    let st = g.A.Design.tree s.first in
    let st' = g.A.Design.tree c.step.new.self in
    let su = g.B.Design.tree s.second.below in
    let now = standing_at g.A.Design g.B.Design c.in_ok-self-in-First.field-0 c.step.new.self c.settle.new.second in
    let gone = c.in_ok-step-in-First.ensures.stepped in
    ∥∥₁_elim s.together (stepped_once {U = Unit {0}} (stands g.A.Design g.B.Design s) c.args.d (Ok tt) now)
    (λ h. stepped_first s.stage B v st st' su c.args.d c.in-First.is h gone now (c.in_ok-self-in-First.ensures.settled (gone_first s.stage B v st st' su c.args.d c.in-First.is h gone)).1)

pub invariant_of-self-in-Second : goal.invariant_of-self-in-Second
invariant_of-self-in-Second g c =
    let s = c.args.self.now in
    let x = c.step-in-Second.new.self in
    let v = tables_of s.second in
    let B = plans g.B.Design s.second in
    let st = g.A.Design.tree s.first in
    let su = g.B.Design.tree s.second.below in
    record {
      together = ∥∥₁_map s.together
          (λ h.
          let f = subst (λ (z : Stage). IntactIn z B v st su) c.in-Second.is h in
          subst (λ (z : Stage). IntactIn z (plans g.B.Design x) (tables_of x) st (g.B.Design.tree x.below)) (sym c.in-Second.is)
          (whole_second B (plans g.B.Design x) v (tables_of x) st su (g.B.Design.tree x.below) f c.step-in-Second.ensures.settings c.step-in-Second.ensures.same
          (c.step-in-Second.ensures.intact f.series)));
    }

pub returns-in-Second-clause-stepped : goal.returns-in-Second-clause-stepped
returns-in-Second-clause-stepped g c =
    let s = c.args.self.now in
    let x = c.step-in-Second.new.self in
    let v = tables_of s.second in
    let B = plans g.B.Design s.second in
    let st = g.A.Design.tree s.first in
    let su = g.B.Design.tree s.second.below in
    ∥∥₁_elim s.together (stepped_once (stands g.A.Design g.B.Design s) c.args.d c.step-in-Second.result (standing_at g.A.Design g.B.Design s.stage s.first x))
    (λ h.
    let f = subst (λ (z : Stage). IntactIn z B v st su) c.in-Second.is h in
    subst (λ (z : Stage). Stepped (stands_in z B v st su) c.args.d c.step-in-Second.result (stands_in z (plans g.B.Design x) (tables_of x) st (g.B.Design.tree x.below))) (sym c.in-Second.is)
    (stepped_second c.step-in-Second.result B (plans g.B.Design x) v (tables_of x) st (standing g.B.Design s.second) (standing g.B.Design x) c.args.d f.underway.fits
    c.step-in-Second.ensures.settings c.step-in-Second.ensures.same (c.step-in-Second.ensures.stepped f.series)))
