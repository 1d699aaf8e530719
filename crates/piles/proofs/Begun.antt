-- Directly after an accepted begin, share answers what is prescribed.
use Rattle.std.proofs.Common.{ℕ, List, Ok, Err, Result, subst}
use Rattle.design.specs.Design.{Plan, refuses, accepts, Run, in_run, Standing, Began, Sound, SoundPlan, Shared}
use Rattle.design.specs.declared.fault.Fault.{Fault}
use Rattle.design.specs.Fractions.{Fraction}
use Rattle.design.specs.declared.row.Row.{Row}
use Rattle.design.proofs.Calls.{prescribed_first}
use Rattle.piles.specs.Begun.{FirstShare}

of_run : (list : List Row) (num : ℕ → ℕ) (run : Run) (k : ℕ) (r : Result Fraction Fault) → Sound list num run → Shared (in_run run) k r
    → FirstShare (accepts num run) k r
of_run list num run k (Ok share) sound h = (h.0, prescribed_first list num run k share sound h)
of_run list num run k (Err e) sound h = h

pub first_prescribed : {U : Type 0} (list : List Row) (p : Plan) (u : U) (st : Standing) (k : ℕ) (r : Result Fraction Fault)
    → SoundPlan list p → Began p (Ok u) st → Shared st k r → FirstShare p k r
first_prescribed list (refuses f) u st k r sound began h = absurd began
first_prescribed list (accepts num run) u st k r sound began h =
    of_run list num run k r sound (subst (λ s. Shared s k r) began h)
