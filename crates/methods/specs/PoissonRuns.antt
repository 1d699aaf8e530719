-- The state of a Poisson run: the first `called` units have had their throws.
use Rattle.std.specs.Prelude.{ℕ, ◌<◌, ◌≤◌, List, length, drop}
use Rattle.outcomes.specs.Trees.{Tree, Sample}
use Rattle.methods.specs.Poisson.{poisson}
use Rattle.methods.specs.Holdings.{taken_of, AllOrNothing, Within}

-- the tree that is left
abbrev pub poisson_tree : ℕ → List ℕ → ℕ → Tree Sample
poisson_tree all holds called = poisson all (drop called holds) called (taken_of all holds called)

-- the limits, and the called units hold all or nothing
abbrev pub Held : ℕ → List ℕ → ℕ → Type 0
Held all holds called = (0 < all) × (all ≤ 10240000) × (called ≤ length holds) × Within all holds × AllOrNothing all holds called
