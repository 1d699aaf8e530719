-- The sums over a tree are those over the list of its outcomes.
use mathlib.Core.Path.{◌≡◌, refl, sym, ap, subst, ◌∙◌}
use mathlib.Core.Bool.{Bool, true, false, cond}
use mathlib.Core.List.{List, [], ◌∷◌, ◌++◌}
use mathlib.Core.Logic.{◌↔◌}
use Prim.Native.Nat.{ℕ, zero, suc, ◌+◌, ◌*◌}
use native.Mathlib.Omega.{arith}
use lib.IntN.{ℤ, pos, ◌*ℤ◌}
use borrow.Author.Differences.{up, down, same_in, sum_is_lem, product_is}
use Rattle.outcomes.specs.Sums.{sum, others}
use Rattle.outcomes.specs.Trees.{Tree, finished, branching, weight, expect, expectℤ, weight_of, Every}
use Rattle.outcomes.specs.Listing.{Weighed, heavier, joined, outcomes, weighed_sum, weighed_sumℤ, passed_sum, Leads, ways_along, weight_at}
use Rattle.outcomes.specs.Estimates.{sample_sumℤ}
use Rattle.outcomes.specs.Laws.{AveragesListed}
use Rattle.outcomes.proofs.Sums.{sum_same, others_times}
use Rattle.outcomes.proofs.Trees.{expect_constant}
use Rattle.outcomes.proofs.Estimates.{expectℤ_is, fair_totalℤ}

sum_append : {A : Type 0} (X : A → ℕ) (xs ys : List (Weighed A)) → weighed_sum X (xs ++ ys) ≡ weighed_sum X xs + weighed_sum X ys
sum_append X [] ys = omega arith
sum_append X (x ∷ xs) ys = omega (arith, sum_append X xs ys)

sum-joined : {A : Type 0} (X : A → ℕ) (n : ℕ) (f : ℕ → List (Weighed A)) → weighed_sum X (joined n f) ≡ sum n (λ d. weighed_sum X (f d))
sum-joined X zero f = refl
sum-joined X (suc n) f = sum_append X (joined n f) (f n) ∙ ap (λ x. x + weighed_sum X (f n)) (sum-joined X n f)

sum_heavier : {A : Type 0} (X : A → ℕ) (c : ℕ) (xs : List (Weighed A)) → weighed_sum X (heavier c xs) ≡ weighed_sum X xs * c
sum_heavier X c [] = omega arith
sum_heavier X c (x ∷ xs) = omega (arith, sum_heavier X c xs)

pub expect_listed : {A : Type 0} (X : A → ℕ) (t : Tree A) → expect X t ≡ weighed_sum X (outcomes t)
unfolding expect outcomes
expect_listed X (finished a) = omega arith
expect_listed X (branching m sub) =
    let O : ℕ → ℕ = others m (λ e. weight (sub e)) in
    sum_same m (λ d. expect X (sub d) * O d) (λ d. weighed_sum X (heavier (O d) (outcomes (sub d))))
    (λ d l. ap (λ x. x * O d) (expect_listed X (sub d)) ∙ sym (sum_heavier X (O d) (outcomes (sub d))))
    ∙ sym (sum-joined X m (λ d. heavier (O d) (outcomes (sub d))))

-- ---- the same, of signed values. An integer z is up z - down z
weighed_is : {A : Type 0} (X : A → ℤ) (os : List (Weighed A))
    → up (weighed_sumℤ X os) + weighed_sum (λ a. down (X a)) os ≡ down (weighed_sumℤ X os) + weighed_sum (λ a. up (X a)) os
weighed_is X [] = refl
weighed_is X (o ∷ os) =
    omega (arith, weighed_is X os, product_is (pos o.times) (X o.outcome), sum_is_lem (pos o.times *ℤ X o.outcome) (weighed_sumℤ X os))

pub expectℤ_listed : {A : Type 0} (X : A → ℤ) (t : Tree A) → expectℤ X t ≡ weighed_sumℤ X (outcomes t)
expectℤ_listed X t =
    same_in (expectℤ X t) (weighed_sumℤ X (outcomes t))
    (omega (
      arith,
      expectℤ_is X (λ a. up (X a)) (λ a. down (X a)) t (λ a. omega arith),
      weighed_is X (outcomes t),
      expect_listed (λ a. up (X a)) t,
      expect_listed (λ a. down (X a)) t,
    ))

pub averages_listed : AveragesListed
averages_listed t R s p q w y share some inverse =
    sym (expectℤ_listed (sample_sumℤ R (λ k. pos (w k) *ℤ y k)) t) ∙ fair_totalℤ t R s p q w y share some inverse

-- the weight of an event, over such a list
passed : {A : Type 0} (p : A → Bool) (os : List (Weighed A)) → weighed_sum (λ a. cond (p a) 1 0) os ≡ passed_sum p os
passed p [] = refl
passed p (o ∷ os) = omega (arith, passed p os, one (p o.outcome) o.times)
  where
    one : (b : Bool) (n : ℕ) → n * cond b 1 0 ≡ cond b n 0
    one true n = omega arith
    one false n = omega arith

pub event_listed : {A : Type 0} (p : A → Bool) (t : Tree A) → weight_of p t ≡ passed_sum p (outcomes t)
event_listed p t = expect_listed (λ a. cond (p a) 1 0) t ∙ passed p (outcomes t)

pub weight_listed : {A : Type 0} (t : Tree A) → weight t ≡ passed_sum (λ a. true) (outcomes t)
weight_listed t = omega (arith, expect_constant 1 t, event_listed (λ a. true) t)

-- ---- the throws that lead to an outcome
pub equally_likely : {A : Type 0} (t : Tree A) (ds : List ℕ) (a : A) → Leads t ds a → ways_along t ds * weight_at t ds ≡ weight t
unfolding ways_along weight_at weight
equally_likely (finished b) [] a h = refl
equally_likely (finished b) (d ∷ ds) a h = absurd h
equally_likely (branching m sub) [] a h = absurd h
equally_likely (branching m sub) (d ∷ ds) a h =
    let W : ℕ → ℕ = λ e. weight (sub e) in
    omega (arith, ap (λ x. m * x * others m W d) (equally_likely (sub d) ds a h.1), ap (λ x. m * x) (others_times m W d h.0))

every_reached : {A : Type 0} (P : A → Type 0) (t : Tree A) → Every P t → (ds : List ℕ) (a : A) → Leads t ds a → P a
every_reached P (finished b) e [] a h = subst P h e
every_reached P (finished b) e (d ∷ ds) a h = absurd h
every_reached P (branching m sub) e [] a h = absurd h
every_reached P (branching m sub) e (d ∷ ds) a h = every_reached P (sub d) (e d h.0) ds a h.1

reached_every : {A : Type 0} (P : A → Type 0) (t : Tree A) → ((ds : List ℕ) (a : A) → Leads t ds a → P a) → Every P t
reached_every P (finished b) h = h [] b refl
reached_every P (branching m sub) h = λ d l. reached_every P (sub d) (λ ds a k. h (d ∷ ds) a (l, k))

pub reached : {A : Type 0} (P : A → Type 0) (t : Tree A) → Every P t ↔ ((ds : List ℕ) (a : A) → Leads t ds a → P a)
reached P t = (every_reached P t, reached_every P t)
