-- Ordered pivotal drawing as a run of duels, by what the units hold alone.
use Rattle.std.specs.Prelude.{◌≡◌, ℕ, ◌<◌, true, cond, ◌↔◌, ◌==◌}
use Rattle.outcomes.specs.Trees.{Tree, finished, branching, Sample}
use Rattle.methods.specs.PivotalRuns.{duel_ways, pending_after, called_after}

-- unit k holds something and not all
abbrev pub IsUndecided : ℕ → (ℕ → ℕ) → ℕ → Type 0
IsUndecided all holds k = (0 < holds k) × (holds k < all)

-- i and k are the first two undecided units, in list order
pub record Duels (all units : ℕ) (holds : ℕ → ℕ) (i k : ℕ) : Type 0 where
  pub in_order : i < k
  pub listed : k < units
  pub first : IsUndecided all holds i
  pub second : IsUndecided all holds k
  pub no_other : (j : ℕ) → j < k → IsUndecided all holds j → j ≡ i

-- what unit j holds once i and k have duelled, where the throw was d: only these two hold something else than before
abbrev pub after_duel : ℕ → (ℕ → ℕ) → ℕ → ℕ → ℕ → ℕ → ℕ
after_duel all holds i k d j =
    cond (j == i) (pending_after all (holds i) (holds k) d)
    (cond (j == k) (called_after all (holds i) (holds k) d) (holds j))

-- From what the units hold, the tree goes on by duels alone. Where it is finished, no unit is undecided, and the sample is of those
-- that hold all; else the first two undecided units duel, with the ways of their duel, and it goes on from what each throw leaves
abbrev pub PlaysOut : ℕ → ℕ → (ℕ → ℕ) → Tree Sample → Type 0
PlaysOut all units holds (finished u) =
    ((k : ℕ) → k < units → IsUndecided all holds k → ⊥) × ((k : ℕ) → (u k ≡ true) ↔ ((k < units) × (holds k ≡ all)))
PlaysOut all units holds (branching m sub) =
    (i : ℕ) × (k : ℕ) × Duels all units holds i k × (m ≡ duel_ways all (holds i) (holds k))
    × ((d : ℕ) → d < m → PlaysOut all units (after_duel all holds i k d) (sub d))
