-- The outcomes of a tree as a list, each with its weight, and the throws that lead to an outcome.
use Rattle.std.specs.Prelude.{◌≡◌, Bool, cond, List, [], ◌∷◌, ◌++◌, map, ℕ, zero, suc, ◌+◌, ◌*◌, ◌<◌, ℤ, pos, ◌+ℤ◌, ◌*ℤ◌}
use Rattle.outcomes.specs.Sums.{others}
use Rattle.outcomes.specs.Trees.{Tree, finished, branching, weight}

-- an outcome and its weight
pub record Weighed (A : Type 0) : Type 0 where
  pub outcome : A
  pub times : ℕ

-- each weight times c
abbrev pub heavier : {A : Type 0} → ℕ → List (Weighed A) → List (Weighed A)
heavier c [] = []
heavier c (o ∷ os) = record { outcome = o.outcome; times = o.times * c } ∷ heavier c os

-- f 0 ++ f 1 ++ .. ++ f (n - 1)
abbrev pub joined : {X : Type 0} → ℕ → (ℕ → List X) → List X
joined zero f = []
joined (suc n) f = joined n f ++ f n

-- The outcomes of a tree with their weights: 1 of the outcome of a finished tree; of an outcome of the subtree `sub d`, its
-- weight there times the total weights of all the other subtrees
unfoldable pub outcomes : {A : Type 0} → Tree A → List (Weighed A)
outcomes (finished a) = record { outcome = a; times = 1 } ∷ []
outcomes (branching m sub) = joined m (λ d. heavier (others m (λ e. weight (sub e)) d) (outcomes (sub d)))

-- the sum, over such a list, of weight times value
abbrev pub weighed_sum : {A : Type 0} → (A → ℕ) → List (Weighed A) → ℕ
weighed_sum X [] = 0
weighed_sum X (o ∷ os) = o.times * X o.outcome + weighed_sum X os

-- the same, of a signed value
abbrev pub weighed_sumℤ : {A : Type 0} → (A → ℤ) → List (Weighed A) → ℤ
weighed_sumℤ X [] = pos 0
weighed_sumℤ X (o ∷ os) = pos o.times *ℤ X o.outcome +ℤ weighed_sumℤ X os

-- the sum of the weights of those that pass the test p
abbrev pub passed_sum : {A : Type 0} → (A → Bool) → List (Weighed A) → ℕ
passed_sum p [] = 0
passed_sum p (o ∷ os) = cond (p o.outcome) o.times 0 + passed_sum p os

-- the throws ds lead from the top of the tree to the outcome b
abbrev pub Leads : {A : Type 0} → Tree A → List ℕ → A → Type 0
Leads (finished a) [] b = a ≡ b
Leads (finished a) (d ∷ ds) b = ⊥
Leads (branching m sub) [] b = ⊥
Leads (branching m sub) (d ∷ ds) b = (d < m) × Leads (sub d) ds b

-- the numbers of ways that the throws ds meet, multiplied: of so many equally likely lists of throws, ds is one
unfoldable pub ways_along : {A : Type 0} → Tree A → List ℕ → ℕ
ways_along (finished a) ds = 1
ways_along (branching m sub) [] = 1
ways_along (branching m sub) (d ∷ ds) = m * ways_along (sub d) ds

-- the weight of the outcome to which the throws ds lead
unfoldable pub weight_at : {A : Type 0} → Tree A → List ℕ → ℕ
weight_at (finished a) ds = 1
weight_at (branching m sub) [] = 1
weight_at (branching m sub) (d ∷ ds) = weight_at (sub d) ds * others m (λ e. weight (sub e)) d

-- the roads of a tree: all lists of throws that lead from the top to an outcome, in order. A finished tree has the empty one; an
-- open tree has, for each throw d, d before each road of the subtree `sub d`
unfoldable pub roads : {A : Type 0} → Tree A → List (List ℕ)
roads (finished a) = [] ∷ []
roads (branching m sub) = joined m (λ d. map (λ ds. d ∷ ds) (roads (sub d)))

-- the road ds leads to the outcome that is listed with its weight
abbrev pub LeadsTo : {A : Type 0} → Tree A → List ℕ → Weighed A → Type 0
LeadsTo t ds o = Leads t ds o.outcome × (o.times ≡ weight_at t ds)
