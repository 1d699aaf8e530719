-- The state of a pivotal run: what the units hold, how many have been called, and which of them is pending.
use Rattle.std.specs.Prelude.{◌≡◌, ℕ, ◌+◌, ◌-◌, ◌*◌, ◌%◌, ◌<◌, ◌≤◌, Bool, true, false, cond, ◌&&◌, List, [], ◌∷◌, length, drop, is_some, Some, None, Option, ◌==◌, ◌≢◌, nat_lt, slice_index}
use Rattle.outcomes.specs.Trees.{Tree, Sample}
use Rattle.methods.specs.Pivotal.{Pending, nobody, pending, pivotal}
use Rattle.methods.specs.Holdings.{taken_of, Within}

-- the pending unit, if any, with what it holds
abbrev pub pending_of : List ℕ → Option ℕ → Pending
pending_of holds None = nobody
pending_of holds (Some i) = pending i (slice_index holds i)

-- the tree that is left once the first `called` units have been called
abbrev pub pivotal_tree : ℕ → List ℕ → ℕ → Option ℕ → Tree Sample
pivotal_tree all holds called pend = pivotal all (drop called holds) called (pending_of holds pend) (taken_of all holds called)

-- a duel: its ways, what the two hold after a throw, and which of them is then pending
abbrev pub duel_ways : ℕ → ℕ → ℕ → ℕ
duel_ways all a b = cond (nat_lt (a + b) all) (a + b) (2 * all - (a + b))

abbrev pub pending_after : ℕ → ℕ → ℕ → ℕ → ℕ
pending_after all a b d = cond (nat_lt (a + b) all) (cond (nat_lt d a) (a + b) 0) (cond (nat_lt d (all - b)) all (a + b - all))

abbrev pub called_after : ℕ → ℕ → ℕ → ℕ → ℕ
called_after all a b d = cond (nat_lt (a + b) all) (cond (nat_lt d a) 0 (a + b)) (cond (nat_lt d (all - b)) (a + b - all) all)

-- a unit that holds x, which is something and not all
abbrev pub short : ℕ → ℕ → Bool
short all x = nat_lt 0 x && nat_lt x all

-- which of the units i and j is pending, where they hold x and y: the one that holds something and not all
abbrev pub keeper : ℕ → ℕ → ℕ → ℕ → ℕ → Option ℕ
keeper all i j x y = cond (short all x) (Some i) (cond (short all y) (Some j) None)

-- k is the pending unit
abbrev pub is_pending : Option ℕ → ℕ → Bool
is_pending None k = false
is_pending (Some i) k = i == k

-- ---- the facts of a run
-- of the units called, only the pending one holds something and not all
abbrev pub Settled : ℕ → List ℕ → ℕ → Option ℕ → Type 0
Settled all holds called pend = (k : ℕ) → k < called → short all (slice_index holds k) ≡ true → is_pending pend k ≡ true

-- the pending unit has been called, and holds something and not all
abbrev pub PendingShort : ℕ → List ℕ → ℕ → Option ℕ → Type 0
PendingShort all holds called None = Unit {0}
PendingShort all holds called (Some i) = (i < called) × (0 < slice_index holds i) × (slice_index holds i < all)

-- each unit still to be called holds something
abbrev pub Fresh : List ℕ → ℕ → Type 0
Fresh holds called = (k : ℕ) → called ≤ k → k < length holds → 0 < slice_index holds k

-- what the pending unit holds, and 0 where nobody is pending
abbrev pub amount : List ℕ → Option ℕ → ℕ
amount holds None = 0
amount holds (Some i) = slice_index holds i

-- the sum of a list
abbrev pub add_up : List ℕ → ℕ
add_up [] = 0
add_up (x ∷ xs) = x + add_up xs

-- what the pending unit and those still to be called hold makes up a whole number of units
abbrev pub Even : ℕ → List ℕ → ℕ → Option ℕ → Type 0
Even all holds called pend = (amount holds pend + add_up (drop called holds)) % all ≡ 0

-- all these facts, and the limits
abbrev pub Held : ℕ → List ℕ → ℕ → Option ℕ → Type 0
Held all holds called pend =
    (0 < all) × (all ≤ 10240000) × (called ≤ length holds) × Within all holds
    × (Settled all holds called pend × PendingShort all holds called pend × Fresh holds called × Even all holds called pend)

-- the next unit to be called has to duel
abbrev pub Ready : ℕ → List ℕ → ℕ → Option ℕ → Type 0
Ready all holds called pend = called < length holds → (is_some pend ≡ true) × (slice_index holds called ≢ all)

-- a run that stands: those facts, and the next unit to be called has to duel
abbrev pub Intact : ℕ → List ℕ → ℕ → Option ℕ → Type 0
Intact all holds called pend = Held all holds called pend × Ready all holds called pend

-- a duel is due: i is pending and holds a, and the unit to be called holds b
pub record Due (holds : List ℕ) (called : ℕ) (pend : Option ℕ) (i a b : ℕ) : Type 0 where
  pub pends : pend ≡ Some i
  pub more : called < length holds
  pub a_is : a ≡ slice_index holds i
  pub b_is : b ≡ slice_index holds called
