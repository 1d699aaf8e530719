-- The scale is the least common multiple of the numerators in lowest terms, and the weights are exact.
use Rattle.std.proofs.Common.{◌≡◌, ℕ, zero, suc, ◌+◌, ◌-◌, ◌*◌, ◌/◌, ◌<◌, ◌≤◌, sym, ap, ◌∙◌, subst, inl, inr, ◌⊎◌, arith}
use Prim.Native.Nat.{◌∣◌}
use Rattle.std.proofs.lemmas.Bool.{cases_lt}
use Rattle.std.proofs.lemmas.Nat.Gcd.{dvd_refl, dvd_trans, dvd-zero, le_of_dvd}
use Rattle.std.proofs.Math.Nat.{one-dvd, div-mul_cancel, mul-div_assoc, mul_comm, mul_assoc}
use Rattle.weights.specs.Scale.{gcd, top, bottom, scale_of, design_weight}
use Rattle.weights.specs.Laws.{SharesAboveNone}
use Rattle.weights.proofs.Divisors.{top_times, bottom_times, top_positive}
use Rattle.weights.proofs.Multiples.{lcm_positive, lcm_left, lcm_right, lcm_least}

-- ---- the scale
fewer : (units : ℕ) (num : ℕ → ℕ) → SharesAboveNone (suc units) num → SharesAboveNone units num
fewer units num some k l = some k (omega arith)

pub scale_positive : (units : ℕ) (num den : ℕ → ℕ) → SharesAboveNone units num → 0 < scale_of units num den
scale_positive zero num den some = omega arith
scale_positive (suc units) num den some =
    lcm_positive _ _ (scale_positive units num den (fewer units num some)) (top_positive (num units) (den units) (some units (omega arith)))

-- it only grows, unit by unit
scale_more : (units : ℕ) (num den : ℕ → ℕ) → SharesAboveNone (suc units) num → scale_of units num den ∣ scale_of (suc units) num den
scale_more units num den some =
    lcm_left _ _ (scale_positive units num den (fewer units num some)) (top_positive (num units) (den units) (some units (omega arith)))

pub scale_divided : (units : ℕ) (num den : ℕ → ℕ) → SharesAboveNone units num → (k : ℕ) → k < units → top (num k) (den k) ∣ scale_of units num den
scale_divided zero num den some k l = absurd (omega arith)
scale_divided (suc units) num den some k l = by (scale_divided units num den (fewer units num some) k) (cases_lt k units)
  where
    by : (k < units → top (num k) (den k) ∣ scale_of units num den) → (k < units) ⊎ (units ≤ k) → top (num k) (den k) ∣ scale_of (suc units) num den
    by before (inl q) = dvd_trans _ (before q) (scale_more units num den some)
    by before (inr q) =
        let same : units ≡ k = omega arith in
        subst (λ i. top (num i) (den i) ∣ scale_of (suc units) num den) same
        (lcm_right _ _ (scale_positive units num den (fewer units num some)) (top_positive (num units) (den units) (some units (omega arith))))

scale_least_above : (units : ℕ) (num den : ℕ → ℕ) → SharesAboveNone units num → (m : ℕ) → 0 < m
    → ((k : ℕ) → k < units → top (num k) (den k) ∣ m) → scale_of units num den ∣ m
scale_least_above zero num den some m q h = one-dvd m
scale_least_above (suc units) num den some m q h =
    lcm_least _ _ m (scale_positive units num den (fewer units num some)) (top_positive (num units) (den units) (some units (omega arith))) q
    (scale_least_above units num den (fewer units num some) m q (λ k l. h k (omega arith))) (h units (omega arith))

-- 0 is a multiple of every number
pub scale_least : (units : ℕ) (num den : ℕ → ℕ) → SharesAboveNone units num → (m : ℕ)
    → ((k : ℕ) → k < units → top (num k) (den k) ∣ m) → scale_of units num den ∣ m
scale_least units num den some zero h = dvd-zero (scale_of units num den)
scale_least units num den some (suc m) h = scale_least_above units num den some (suc m) (omega arith) h

scale_chain : (num den : ℕ → ℕ) (j d : ℕ) → SharesAboveNone (d + j) num → scale_of j num den ∣ scale_of (d + j) num den
scale_chain num den j zero some = subst (λ i. scale_of j num den ∣ scale_of i num den) (let e : j ≡ 0 + j = omega arith in e) (dvd_refl _)
scale_chain num den j (suc d) some =
    let e : suc (d + j) ≡ suc d + j = omega arith in
    let all : SharesAboveNone (suc (d + j)) num = λ k l. some k (omega arith) in
    subst (λ i. scale_of j num den ∣ scale_of i num den) e
    (dvd_trans _ (scale_chain num den j d (fewer (d + j) num all)) (scale_more (d + j) num den all))

pub scale_rises : (units : ℕ) (num den : ℕ → ℕ) → SharesAboveNone units num → (j : ℕ) → j ≤ units → scale_of j num den ≤ scale_of units num den
scale_rises units num den some j l =
    let e : (units - j) + j ≡ units = omega arith in
    le_of_dvd (scale_positive units num den some)
    (subst (λ i. scale_of j num den ∣ scale_of i num den) e (scale_chain num den j (units - j) (λ k q. some k (omega arith))))

-- ---- weights
-- the weight is the scale over the share
pub weight_times : (scale num den : ℕ) → top num den ∣ scale → design_weight scale num den * num ≡ scale * den
weight_times scale num den h =
    let t : ℕ = top num den in
    let b : ℕ = bottom num den in
    let g : ℕ = gcd num den in
    let over : design_weight scale num den ≡ scale / t * b =
    ap (λ x. x / t) (mul_comm scale b) ∙ mul-div_assoc t b h ∙ mul_comm b (scale / t) in
    let back : scale / t * t ≡ scale = div-mul_cancel t h in
    ap (λ x. x * num) over
    ∙ ap (λ x. scale / t * b * x) (sym (top_times num den))
    ∙ omega (arith, mul_assoc (scale / t) b (t * g), mul_assoc b t g, mul_comm b t, mul_assoc t b g, mul_assoc (scale / t) t (b * g))
    ∙ ap (λ x. x * (b * g)) back
    ∙ ap (λ x. scale * x) (bottom_times num den)

pub weights_exact : (units : ℕ) (num den : ℕ → ℕ) → SharesAboveNone units num
    → (k : ℕ) → k < units → design_weight (scale_of units num den) (num k) (den k) * num k ≡ scale_of units num den * den k
weights_exact units num den some k l = weight_times (scale_of units num den) (num k) (den k) (scale_divided units num den some k l)
