-- A finished run, and what its units leave in a total.
use Rattle.std.specs.Prelude.{◌≡◌, ℕ, ◌<◌, ◌≤◌, List, length, None, Ok, Result, slice_index, replicate, pos}
use Rattle.survey.specs.Means.{kind_of, tally_of}
use Rattle.outcomes.specs.Sums.{count}
use Rattle.outcomes.specs.Trees.{Sample, finished}
use Rattle.design.specs.Lists.{first}
use Rattle.design.specs.Design.{Run, Standing, in_run}
use Rattle.design.specs.declared.design.Design as Design
use Rattle.design.specs.declared.fault.Fault.{Fault}
use Rattle.totals.specs.declared.total.Total as Total
use Rattle.plain_survey.specs.Reports.{Kind, Tally, unlawful_at, row_of_reading, added}

-- the run has come to the outcome u, of so many units
pub record Finished (standing : Standing) (units : ℕ) (u : Sample) : Type 0 where
  pub run : Run
  pub stands : standing ≡ in_run run
  pub done : run.tree ≡ finished u
  pub units_are : run.units ≡ units

-- no weight is above 10^9, and each reading is lawful
pub record Addable {R : Type 0} (kind : Kind R) (weights : List ℕ) (readings : List R) : Type 0 where
  pub light : (k : ℕ) → k < length readings → slice_index weights k ≤ 1000000000
  pub lawful : first (length readings) (unlawful_at kind readings) ≡ None

-- the answer is the number of units taken, and the total is cleared and has weight and reading of each of them
pub record Adds {R : Type 0} (kind : Kind R) (weights : List ℕ) (readings : List R) (u : Sample) (new : Tally) (result : Result ℕ Fault) : Type 0 where
  pub number : result ≡ Ok (count (length readings) u)
  pub entries : new.entries ≡ added (length readings) u (slice_index weights) (row_of_reading kind readings) (replicate kind.width (pos 0))
  pub additions : new.additions ≡ count (length readings) u

-- the same of the outcome to which the design has come, if it has, and of a total as it is left
abbrev pub AddsUp : {D T R : Type 0} → Design.Ghosts D → Total.Ghosts T R → D → List ℕ → List R → T → Result ℕ Fault → Type 0
AddsUp d t design weights readings new result =
    (u : Sample) → Finished (d.tree design) (length readings) u → Addable (kind_of t) weights readings → Adds (kind_of t) weights readings u (tally_of t new) result
