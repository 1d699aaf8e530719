-- A view of the design below at the two moments at which a series copies out of it: when it has just begun, and when it has finished.
use Rattle.std.specs.Prelude.{◌≡◌, ℕ, ◌-◌, ◌<◌, cond, ◌&&◌, nat_le, nat_lt}
use Rattle.outcomes.specs.Trees.{Sample, HasWays, ways}
use Rattle.design.specs.Design.{Plan, refuses, accepts, Standing, no_run, in_run, Fair}
use Rattle.design.specs.Plans.{nothing, outcome}

-- the outcome of a finished run
abbrev pub outcome_of : Standing → Sample
outcome_of no_run = nothing
outcome_of (in_run r) = outcome r.tree

-- a finished run of n units stands
abbrev pub Over : Standing → ℕ → Type 0
Over no_run n = ⊥
Over (in_run r) n = (r.units ≡ n) × HasWays r.tree × (ways r.tree ≡ 0)

-- the run that stands is the one that the plan begins, with n units
abbrev pub Fresh : Plan → Standing → ℕ → Type 0
Fresh (refuses f) st n = ⊥
Fresh (accepts num run) st n = (st ≡ in_run run) × (run.units ≡ n) × HasWays run.tree × ((k : ℕ) → k < n → Fair run k (num k))

-- f with the values w of a part written in, from the row a up to, and not including, the row b
abbrev pub overwritten : {X : Type 0} → (ℕ → X) → ℕ → ℕ → (ℕ → X) → ℕ → X
overwritten f a b w k = cond (nat_le a k && nat_lt k b) (w (k - a)) (f k)
