-- The state of a systematic run: what the units hold before the throw and after it.
use Rattle.std.specs.Prelude.{◌≡◌, ℕ, ◌<◌, ◌≤◌, Bool, true, false, cond, List, length, slice_index}
use Rattle.outcomes.specs.Trees.{Tree, finished, Sample}
use Rattle.methods.specs.Systematic.{struck, systematic}
use Rattle.methods.specs.Holdings.{taken_of, AllOrNothing, Within}

-- the tree before the throw, when the units hold their goals, and after it
abbrev pub systematic_tree : ℕ → List ℕ → Bool → Tree Sample
systematic_tree all holds false = systematic all holds
systematic_tree all holds true = finished (taken_of all holds (length holds))

-- the limits, and after the throw each unit holds all or nothing
abbrev pub Held : ℕ → List ℕ → Bool → Type 0
Held all holds thrown = (0 < all) × (all ≤ 10240000) × (length holds ≤ 1024) × Within all holds × (thrown ≡ true → AllOrNothing all holds (length holds))

-- what the throw r leaves: all to each unit that it takes, and nothing to the others
abbrev pub Struck : ℕ → List ℕ → ℕ → List ℕ → Type 0
Struck all goals r after =
    (length after ≡ length goals) × ((k : ℕ) → k < length goals → slice_index after k ≡ cond (struck all goals r k) all 0)
