-- The throws that lead through parts of a list, part by part.
use Rattle.std.specs.Prelude.{◌≡◌, ℕ, ◌-◌, T, ◌⊎◌, ◌↔◌, List, [], ◌∷◌, ◌++◌}
use Rattle.outcomes.specs.Trees.{Sample}
use Rattle.outcomes.specs.Listing.{Leads}
use Rattle.design.specs.Plans.{Plans, tree_of}
use Rattle.parts.specs.Parts.{Part, holds}
use Rattle.parts.specs.Series.{plan_for}

-- a run of the design on one part: its throws, and the outcome to which they lead
pub record PartRun : Type 0 where
  pub throws : List ℕ
  pub outcome : Sample

-- there is one run for each of the parts, in order, whose throws lead through the part's tree to its outcome
abbrev pub Through : Plans → List Part → List PartRun → Type 0
Through B [] [] = Unit {0}
Through B [] (r ∷ rs) = ⊥
Through B (p ∷ ps) [] = ⊥
Through B (p ∷ ps) (r ∷ rs) = Leads (tree_of (plan_for B p)) r.throws r.outcome × Through B ps rs

-- the throws of all runs, one after another
abbrev pub all_throws : List PartRun → List ℕ
all_throws [] = []
all_throws (r ∷ rs) = r.throws ++ all_throws rs

-- the unit k of the list lies in the part, and the part's outcome holds it at its place there
abbrev pub InPart : Part → PartRun → ℕ → Type 0
InPart p r k = T (holds p k) × T (r.outcome (k - p.at))

-- the same of one of the parts
abbrev pub InSome : List Part → List PartRun → ℕ → Type 0
InSome [] rs k = ⊥
InSome (p ∷ ps) [] k = ⊥
InSome (p ∷ ps) (r ∷ rs) k = InPart p r k ⊎ InSome ps rs k

-- the throws ds go through each of the parts in turn, and u is the union of the parts' outcomes
pub record PartByPart (B : Plans) (ps : List Part) (ds : List ℕ) (u : Sample) : Type 0 where
  pub runs : List PartRun
  pub through : Through B ps runs
  pub throws_are : ds ≡ all_throws runs
  pub units_are : (k : ℕ) → T (u k) ↔ InSome ps runs k
