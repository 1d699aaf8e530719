-- Trees of outcomes, with exact whole-number weights.
use Rattle.std.specs.Prelude.{◌≡◌, Bool, true, cond, ℕ, ◌*◌, ◌≤◌, ◌<◌, T, eqb, ℤ, pos, ◌*ℤ◌}
use Rattle.outcomes.specs.Sums.{sum, sumℤ, product, others}

-- A finished tree is one outcome. An open tree, here `branching`, has m ways, and for each throw d below m the subtree `sub d`
pub data Tree (A : Type 0) : Type 0 where
  finished : A → Tree A
  branching : ℕ → (ℕ → Tree A) → Tree A

-- a sample: the set of the unit numbers that it holds
abbrev pub Sample : Type 0
Sample = ℕ → Bool

-- the sample with the unit k
abbrev pub with : Sample → ℕ → Sample
with u k j = cond (eqb j k) true (u j)

-- the total weight: 1 of a finished tree, and of an open one m times the product of its subtrees' total weights
unfoldable pub weight : {A : Type 0} → Tree A → ℕ
weight (finished a) = 1
weight (branching m sub) = m * product m (λ d. weight (sub d))

-- the weighted sum: over all outcomes of the tree, the outcome's weight times its value X.
-- An outcome of the subtree `sub d` has its weight there times the total weights of all the other subtrees
unfoldable pub expect : {A : Type 0} → (A → ℕ) → Tree A → ℕ
expect X (finished a) = X a
expect X (branching m sub) = sum m (λ d. expect X (sub d) * others m (λ e. weight (sub e)) d)

-- the same, of a signed value
unfoldable pub expectℤ : {A : Type 0} → (A → ℤ) → Tree A → ℤ
expectℤ X (finished a) = X a
expectℤ X (branching m sub) = sumℤ m (λ d. expectℤ X (sub d) *ℤ pos (others m (λ e. weight (sub e)) d))

-- the weight of an event: the sum of the weights of the outcomes that pass the test p
abbrev pub weight_of : {A : Type 0} → (A → Bool) → Tree A → ℕ
weight_of p t = expect (λ a. cond (p a) 1 0) t

-- the inclusion weight of the unit k: the sum of the weights of the outcomes that hold k
abbrev pub inclusion : ℕ → Tree Sample → ℕ
inclusion k t = weight_of (λ u. u k) t

-- num / den is the average of the value X over the tree, by weight
abbrev pub Average : {A : Type 0} → (A → ℕ) → ℕ → ℕ → Tree A → Type 0
Average X num den t = num * weight t ≡ den * expect X t

-- num / den is the inclusion share of the unit k: the part of all outcomes, by weight, that hold k
abbrev pub Share : ℕ → ℕ → ℕ → Tree Sample → Type 0
Share k num den t = num * weight t ≡ den * inclusion k t

-- each open tree in it has at least one way
abbrev pub HasWays : {A : Type 0} → Tree A → Type 0
HasWays (finished a) = Unit {0}
HasWays (branching m sub) = (0 < m) × ((d : ℕ) → d < m → HasWays (sub d))

-- P holds of every outcome
abbrev pub Every : {A : Type 0} → (A → Type 0) → Tree A → Type 0
Every P (finished a) = P a
Every P (branching m sub) = (d : ℕ) → d < m → Every P (sub d)

-- the unit k is in every outcome
abbrev pub Always : ℕ → Tree Sample → Type 0
Always k t = Every (λ u. T (u k)) t

-- every number of ways is from 1 to 10,240,000, and every outcome holds only units below the given number
abbrev pub Lawful : ℕ → Tree Sample → Type 0
Lawful units (finished u) = (k : ℕ) → T (u k) → k < units
Lawful units (branching m sub) = (1 ≤ m) × (m ≤ 10240000) × ((d : ℕ) → d < m → Lawful units (sub d))

-- the number of ways of an open tree, and 0 of a finished one
abbrev pub ways : {A : Type 0} → Tree A → ℕ
ways (finished a) = 0
ways (branching m sub) = m

-- the tree after the throw d
abbrev pub subtree : {A : Type 0} → Tree A → ℕ → Tree A
subtree (finished a) d = finished a
subtree (branching m sub) d = sub d

-- the sequence of two trees: in the place of each outcome a of t, the tree h a
abbrev pub bind : {A B : Type 0} → Tree A → (A → Tree B) → Tree B
bind (finished a) h = h a
bind (branching m sub) h = branching m (λ d. bind (sub d) h)
