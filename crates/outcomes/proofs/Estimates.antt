-- Estimates: what a weighted total over the sample is on the average.
use mathlib.Core.Path.{◌≡◌, refl, ap, ◌∙◌}
use mathlib.Core.Bool.{Bool, true, false, cond}
use Prim.Native.Nat.{ℕ, zero, suc, ◌+◌, ◌*◌, ◌<◌}
use native.Mathlib.Nat.{eq_of_mul-eq-mul_left}
use native.Mathlib.Omega.{arith}
use lib.IntN.{ℤ, pos, ◌*ℤ◌}
use borrow.Author.Differences.{up, down, same_in, sum_is_lem, product_is}
use Rattle.outcomes.specs.Sums.{sum, sumℤ, others}
use Rattle.outcomes.specs.Trees.{Tree, finished, branching, Sample, weight, expect, expectℤ, inclusion, Share}
use Rattle.outcomes.specs.Estimates.{sample_sumℤ}
use Rattle.outcomes.proofs.Sums.{sum_same, sum_scale}
use Rattle.outcomes.proofs.Trees.{expect_same, expect_add, expect_scale, expect_constant}

-- the sum over a sample, of numbers that are not signed
abbrev pub sample_sum : ℕ → (ℕ → ℕ) → Sample → ℕ
sample_sum R c u = sum R (λ k. cond (u k) (c k) 0)

-- ---- linearity
pub expect-sum : {A : Type 0} (R : ℕ) (X : ℕ → A → ℕ) (t : Tree A) → expect (λ a. sum R (λ k. X k a)) t ≡ sum R (λ k. expect (X k) t)
expect-sum zero X t = expect_constant 0 t ∙ omega arith
expect-sum (suc R) X t = expect_add (λ a. sum R (λ k. X k a)) (X R) t ∙ ap (λ x. x + expect (X R) t) (expect-sum R X t)

pub linear : (R : ℕ) (c : ℕ → ℕ) (t : Tree Sample) → expect (sample_sum R c) t ≡ sum R (λ k. c k * inclusion k t)
linear R c t =
    expect-sum R (λ k u. cond (u k) (c k) 0) t
    ∙ sum_same R (λ k. expect (λ u. cond (u k) (c k) 0) t) (λ k. c k * inclusion k t)
    (λ k l. expect_same (λ u. cond (u k) (c k) 0) (λ u. c k * cond (u k) 1 0) t (λ u. one (c k) (u k)) ∙ expect_scale (c k) (λ u. cond (u k) 1 0) t)
  where
    one : (c : ℕ) (b : Bool) → cond b c 0 ≡ c * cond b 1 0
    one c true = omega arith
    one c false = omega arith

-- if each unit k has the share p k / q k, and its weight w k is s times the inverse of that share,
-- then the weighted total of the sample is on the average s times the total of all
pub fair_total : (t : Tree Sample) (R s : ℕ) (p q w y : ℕ → ℕ)
    → ((k : ℕ) → k < R → Share k (p k) (q k) t)
    → ((k : ℕ) → k < R → 0 < p k)
    → ((k : ℕ) → k < R → w k * p k ≡ s * q k)
    → expect (sample_sum R (λ k. w k * y k)) t ≡ weight t * s * sum R y
fair_total t R s p q w y share some inverse =
    linear R (λ k. w k * y k) t
    ∙ sum_same R (λ k. w k * y k * inclusion k t) (λ k. weight t * s * y k) (λ k l. each k l)
    ∙ sum_scale R (weight t * s) y
  where
    each : (k : ℕ) → k < R → w k * y k * inclusion k t ≡ weight t * s * y k
    each k l =
        let one : w k * inclusion k t ≡ s * weight t =
        eq_of_mul-eq-mul_left (p k) (some k l) (w k * inclusion k t) (s * weight t)
        (omega (arith, ap (λ x. x * inclusion k t) (inverse k l), ap (λ x. s * x) (share k l))) in
        omega (arith, ap (λ x. x * y k) one)

-- ---- the same, of signed readings. An integer z is up z - down z
sumℤ_is : (n : ℕ) (f : ℕ → ℤ) (p q : ℕ → ℕ) → ((i : ℕ) → i < n → up (f i) + q i ≡ down (f i) + p i) → up (sumℤ n f) + sum n q ≡ down (sumℤ n f) + sum n p
sumℤ_is zero f p q h = refl
sumℤ_is (suc n) f p q h = omega (arith, sumℤ_is n f p q (λ i l. h i (omega arith)), h n (omega arith), sum_is_lem (sumℤ n f) (f n))

-- if the signed X is P - N at each outcome, then so it is on the average
pub expectℤ_is : {A : Type 0} (X : A → ℤ) (P N : A → ℕ) (t : Tree A) → ((a : A) → up (X a) + N a ≡ down (X a) + P a) → up (expectℤ X t) + expect N t ≡ down (expectℤ X t) + expect P t
unfolding expect expectℤ
expectℤ_is X P N (finished a) h = h a
expectℤ_is X P N (branching m sub) h =
    let O : ℕ → ℕ = others m (λ e. weight (sub e)) in
    sumℤ_is m (λ d. expectℤ X (sub d) *ℤ pos (O d)) (λ d. expect P (sub d) * O d) (λ d. expect N (sub d) * O d)
    (λ d l. omega (arith, product_is (expectℤ X (sub d)) (pos (O d)), ap (λ x. x * O d) (expectℤ_is X P N (sub d) h)))

pub fair_totalℤ : (t : Tree Sample) (R s : ℕ) (p q w : ℕ → ℕ) (y : ℕ → ℤ)
    → ((k : ℕ) → k < R → Share k (p k) (q k) t)
    → ((k : ℕ) → k < R → 0 < p k)
    → ((k : ℕ) → k < R → w k * p k ≡ s * q k)
    → expectℤ (sample_sumℤ R (λ k. pos (w k) *ℤ y k)) t ≡ pos (weight t * s) *ℤ sumℤ R y
fair_totalℤ t R s p q w y share some inverse =
    let c : ℕ = weight t * s in
    let U : ℕ → ℕ = λ k. up (y k) in
    let D : ℕ → ℕ = λ k. down (y k) in
    let S : ℤ = expectℤ (sample_sumℤ R (λ k. pos (w k) *ℤ y k)) t in
    let split : up S + expect (sample_sum R (λ k. w k * D k)) t ≡ down S + expect (sample_sum R (λ k. w k * U k)) t =
    expectℤ_is (sample_sumℤ R (λ k. pos (w k) *ℤ y k)) (sample_sum R (λ k. w k * U k)) (sample_sum R (λ k. w k * D k)) t
    (λ u. sumℤ_is R (λ k. cond (u k) (pos (w k) *ℤ y k) (pos 0)) (λ k. cond (u k) (w k * U k) 0) (λ k. cond (u k) (w k * D k) 0)
    (λ k l. one (w k) (y k) (u k))) in
    let total : up (sumℤ R y) + sum R D ≡ down (sumℤ R y) + sum R U = sumℤ_is R y U D (λ k l. omega arith) in
    same_in S (pos c *ℤ sumℤ R y)
    (omega (
      arith,
      split,
      fair_total t R s p q w U share some inverse,
      fair_total t R s p q w D share some inverse,
      ap (λ x. c * x) total,
      product_is (pos c) (sumℤ R y),
    ))
  where
    one : (w : ℕ) (y : ℤ) (b : Bool) → up (cond b (pos w *ℤ y) (pos 0)) + cond b (w * down y) 0 ≡ down (cond b (pos w *ℤ y) (pos 0)) + cond b (w * up y) 0
    one w y true = omega (arith, product_is (pos w) y)
    one w y false = refl
