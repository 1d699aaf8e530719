use Rattle.std.proofs.Common.{sym, subst}
use mathlib.Core.Logic.{∥∥₁_map}
use Rattle.design.specs.Design.{Stepped}
use Rattle.design.proofs.Once.{stepped_once}
use Rattle.layers.specs.Standings.{stands_if}
use Rattle.layers.proofs.Standings.{kept_now}
use Rattle.series.specs.Of.{standing}
use Rattle.stratified.proofs.StratifiedDesign.step.Goals as goal

pub invariant_of-self : goal.invariant_of-self
invariant_of-self g c = record { together = ∥∥₁_map c.args.self.now.together (λ k runs. c.step.ensures.intact (k runs)) }

pub returns-clause-stepped : goal.returns-clause-stepped
returns-clause-stepped g c =
    let s = c.args.self.now in
    let old = standing g.D.Design s.strata in
    let new = standing g.D.Design c.step.new.self in
    let runs = c.if-not-self.false in
    subst (λ b. Stepped (stands_if b old) c.args.d c.step.result (stands_if b new)) (sym runs)
    (kept_now s.running s.together runs (stepped_once old c.args.d c.step.result new) c.step.ensures.stepped)
