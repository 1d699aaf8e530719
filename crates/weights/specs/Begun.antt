-- A design that has just begun, and what is said of its prescribed shares.
use Rattle.std.specs.Prelude.{◌≡◌, ℕ, ◌<◌, List, length, slice_index}
use Rattle.design.specs.Design.{Run, Standing, in_run, Sound}
use Rattle.design.specs.declared.design.Design as Design
use Rattle.design.specs.declared.row.Row.{Row}
use Rattle.weights.specs.Scale.{design_weight}

-- a design stands at a run that is sound for this list of so many units, with these numerators: as it does directly after it has accepted the
-- list, when they are the prescribed ones
pub record JustBegun (standing : Standing) (units : ℕ) (list : List Row) (num : ℕ → ℕ) (run : Run) : Type 0 where
  pub stands : standing ≡ in_run run
  pub sound : Sound list num run
  pub all : units ≡ length list

-- what is said of the prescribed numerators and denominators of a design that has just begun on so many units
abbrev pub OfPrescribed : {D : Type 0} → Design.Ghosts D → D → ℕ → ((ℕ → ℕ) → (ℕ → ℕ) → Type 0) → Type 0
OfPrescribed G d units Q =
    (list : List Row) (num : ℕ → ℕ) (run : Run) → JustBegun (G.tree d) units list num run → Q num run.denominator

-- each of so many units has its design weight at this scale
pub record HaveWeights (units : ℕ) (num den : ℕ → ℕ) (scale : ℕ) (weights : List ℕ) : Type 0 where
  pub all_weighed : length weights ≡ units
  pub weights_are : (k : ℕ) → k < units → slice_index weights k ≡ design_weight scale (num k) (den k)
