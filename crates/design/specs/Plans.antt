-- What a plan fixes: the tree, and each unit's prescribed share.
use Rattle.std.specs.Prelude.{ℕ, false, List}
use Rattle.outcomes.specs.Trees.{Tree, finished, branching, Sample}
use Rattle.design.specs.Design.{Plan, refuses, accepts, SoundPlan}
use Rattle.design.specs.Fractions.{Fraction, fraction}
use Rattle.design.specs.declared.row.Row.{Row}

-- what a design's settings fix for each list and sample size
abbrev pub Plans : Type 0
Plans = List Row → ℕ → Plan

-- every plan keeps the limits, and prescribes exact shares
abbrev pub SoundPlans : Plans → Type 0
SoundPlans B = (list : List Row) (n : ℕ) → SoundPlan list (B list n)

-- the sample without units; and the sample to which a finished tree has come
abbrev pub nothing : Sample
nothing k = false

abbrev pub outcome : Tree Sample → Sample
outcome (finished u) = u
outcome (branching m sub) = nothing

-- the tree, the numerators and the denominators of a plan that accepts
abbrev pub tree_of : Plan → Tree Sample
tree_of (refuses f) = finished nothing
tree_of (accepts num run) = run.tree

abbrev pub numerator_of : Plan → ℕ → ℕ
numerator_of (refuses f) k = 0
numerator_of (accepts num run) k = num k

abbrev pub denominator_of : Plan → ℕ → ℕ
denominator_of (refuses f) k = 0
denominator_of (accepts num run) k = run.denominator k

-- the prescribed share of a unit, of a plan that accepts
abbrev pub share_of : Plan → ℕ → Fraction
share_of a k = fraction (numerator_of a k) (denominator_of a k)
