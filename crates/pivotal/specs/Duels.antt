-- A pivotal run as its parts stand for it, and the duel that is due in it.
use Rattle.std.specs.Prelude.{◌≡◌, ℕ, ◌<◌, ◌≤◌, ◌≢◌, length, Some, None, Option, slice_index}
use Rattle.outcomes.specs.Trees.{Tree, Sample, ways}
use Rattle.methods.specs.PivotalRuns.{pivotal_tree, Held, Intact, Due}
use Rattle.pivotal.specs.declared.Duels.{Duels}
use Rattle.pivotal.specs.declared.duel.Duel.{Duel}
use Rattle.plain.specs.Of.{whole, held}
use Rattle.plain.specs.declared.holdings.Holdings.{Holdings}

-- the present tree, where so many units have been called and this one is pending
abbrev pub tree_of : Holdings → Duels → Tree Sample
tree_of units m = pivotal_tree (whole units) (held units) m.called m.pending

-- the facts of the state, and with them that the next unit to be called has to duel
abbrev pub HeldIn : Holdings → Duels → Type 0
HeldIn units m = Held (whole units) (held units) m.called m.pending

abbrev pub IntactIn : Holdings → Duels → Type 0
IntactIn units m = Intact (whole units) (held units) m.called m.pending

-- none where the tree has no way; else the pending unit with what it holds, and what the unit to be called holds
abbrev pub DueDuel : Holdings → Duels → Option Duel → Type 0
DueDuel units m None = ways (tree_of units m) ≡ 0
DueDuel units m (Some duel) = Due (held units) m.called m.pending duel.pending duel.a duel.b × (duel.total ≡ whole units)

-- i is the first of the units from `from` on that does not hold the total, or the number of units where each does
pub record NextShort (units : Holdings) (from i : ℕ) : Type 0 where
  pub onward : from ≤ i
  pub within : i ≤ length (held units)
  pub full : (k : ℕ) → from ≤ k → k < i → slice_index (held units) k ≡ whole units
  pub short : i < length (held units) → slice_index (held units) i ≢ whole units
