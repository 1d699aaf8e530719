-- What a design that was just begun answers first: the refusal of its plan, or of the run that the plan begins.
use Rattle.std.specs.Prelude.{◌≡◌, ℕ, Ok, Err, Result}
use Rattle.outcomes.specs.Trees.{ways}
use Rattle.design.specs.Faults.{numbered}
use Rattle.design.specs.Design.{Plan, refuses, accepts, in_run, OfUnit}
use Rattle.design.specs.declared.fault.Fault.{Fault}
use Rattle.design.specs.Fractions.{Fraction}

-- the ways of the first throw
abbrev pub FirstWays : Plan → Result ℕ Fault → Type 0
FirstWays (refuses f) (Ok w) = ⊥
FirstWays (refuses f) (Err e) = numbered e ≡ f
FirstWays (accepts num run) (Ok w) = w ≡ ways run.tree
FirstWays (accepts num run) (Err e) = ⊥

-- the prescribed share of the unit k, where the run has it
abbrev pub FirstShare : Plan → ℕ → Result Fraction Fault → Type 0
FirstShare (refuses f) k (Ok share) = ⊥
FirstShare (refuses f) k (Err e) = numbered e ≡ f
FirstShare (accepts num run) k r = OfUnit (in_run run) k (λ now share. (share.0 ≡ num k) × (share.1 ≡ now.denominator k)) r
