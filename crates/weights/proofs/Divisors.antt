-- The greatest common divisor, and two numbers over it.
use Rattle.std.proofs.Common.{◌≡◌, ℕ, zero, suc, ◌+◌, ◌*◌, ◌/◌, ◌%◌, ◌<◌, ◌≤◌, max, true, false, ◌&&◌, sym, refl, ap, ◌∙◌, subst, inl, inr, ◌⊎◌, arith}
use Prim.Native.Nat.{◌∣◌}
use Rattle.std.specs.Int.{IsGcd}
use Rattle.std.proofs.lemmas.Bool.{eqb-true, eq-eqb, and_parts, and_from, cond_both, both_ways, cases_eq}
use Rattle.std.proofs.lemmas.Nat.Gcd.{IsGcd-from_zero, IsGcd-from_mod, same_from_IsGcd, dvd_antisymm, le_of_dvd, dvd_of_mod-eq-zero, mod-eq-zero_of_dvd}
use Rattle.std.proofs.Math.Nat.{mod-lt, div-mul_cancel, pos_of_dvd_of_pos, dvd-mul_right, eq-zero_of_zero-dvd, mul-dvd-mul_left, mul-dvd-mul_right, dvd_of_mul-dvd-mul_left, mul_comm, mul_assoc}
use Rattle.weights.specs.Scale.{divides, common_divisor_up_to, gcd, top, bottom}

-- ---- the test
pub dividing : (d n : ℕ) → divides d n ≡ true → d ∣ n
dividing d n e = dvd_of_mod-eq-zero d (eqb-true (n % d) 0 e)

pub divides_from : (d n : ℕ) → d ∣ n → divides d n ≡ true
divides_from d n h = eq-eqb (n % d) 0 (mod-eq-zero_of_dvd d h)

-- ---- the greatest common divisor
-- where there is a common divisor within the search, the number that is found divides both and is no less
found : (most a b d : ℕ) → 0 < d → d ≤ most → d ∣ a → d ∣ b
    → (d ≤ common_divisor_up_to most a b) × (common_divisor_up_to most a b ∣ a) × (common_divisor_up_to most a b ∣ b)
found zero a b d some few x y = absurd (omega arith)
found (suc most) a b d some few x y =
    cond_both (divides (suc most) a && divides (suc most) b) (suc most) (common_divisor_up_to most a b) (λ g. (d ≤ g) × (g ∣ a) × (g ∣ b))
    (λ e. let both = and_parts _ _ e in (few, dividing (suc most) a both.0, dividing (suc most) b both.1))
    (λ e. found most a b d some (below (cases_eq d (suc most)) e) x y)
  where
    below : (d ≡ suc most) ⊎ (d ≡ suc most → ⊥) → (divides (suc most) a && divides (suc most) b) ≡ false → d ≤ most
    below (inl same) e = absurd (both_ways _ e (and_from _ _ (divides_from _ a (subst (λ n. n ∣ a) same x)) (divides_from _ b (subst (λ n. n ∣ b) same y))))
    below (inr other) e = omega (arith, few, other)

-- Euclid's steps find one
euclid : (steps a b : ℕ) → b < steps → (g : ℕ) × IsGcd a b g
euclid zero a b l = absurd (omega arith)
euclid (suc steps) a zero l = (a, IsGcd-from_zero a 0 refl)
euclid (suc steps) a (suc b) l =
    let less : a % suc b < suc b = mod-lt a (omega arith) in
    let r = euclid steps (suc b) (a % suc b) (omega arith) in
    (r.0, IsGcd-from_mod a (suc b) r.0 r.1)

greatest : (a b : ℕ) → 0 < a + b → IsGcd a b (gcd a b)
unfolding gcd
greatest a b some =
    let r = euclid (suc b) a b (omega arith) in
    let g : ℕ = r.0 in
    let h : IsGcd a b g = r.1 in
    let few = within a b g some h in
    let f = found (a + b) a b g few.0 few.1 h.0 h.1 in
    let most : common_divisor_up_to (a + b) a b ≤ g = le_of_dvd few.0 (h.2 _ f.1 f.2) in
    subst (IsGcd a b) (omega (arith, f.0, most)) h
  where
    within : (a b g : ℕ) → 0 < a + b → IsGcd a b g → (0 < g) × (g ≤ a + b)
    within zero zero g some h = absurd (omega arith)
    within zero (suc b) g some h = (pos_of_dvd_of_pos h.1 (omega arith), let l : g ≤ suc b = le_of_dvd (omega arith) h.1 in omega arith)
    within (suc a) b g some h = (pos_of_dvd_of_pos h.0 (omega arith), let l : g ≤ suc a = le_of_dvd (omega arith) h.0 in omega arith)

pub is_gcd : (a b : ℕ) → IsGcd a b (gcd a b)
unfolding gcd
is_gcd zero zero = IsGcd-from_zero 0 0 refl
is_gcd zero (suc b) = greatest 0 (suc b) (omega arith)
is_gcd (suc a) b = greatest (suc a) b (omega arith)

pub gcd_positive : (a b : ℕ) → 0 < a → 0 < gcd a b
gcd_positive a b some = pos_of_dvd_of_pos (is_gcd a b).0 some

pub gcd_over : (a b : ℕ) → b ≡ 0 → a ≡ gcd a b
gcd_over a b e = same_from_IsGcd a b _ _ (IsGcd-from_zero a b e) (is_gcd a b)

pub gcd_step : (a b : ℕ) → gcd b (a % b) ≡ gcd a b
gcd_step a b = same_from_IsGcd a b _ _ (IsGcd-from_mod a b _ (is_gcd b (a % b))) (is_gcd a b)

-- it is 0 for two zeros alone, so 1 may stand for 0
pub over_some : (n g h m : ℕ) → g ∣ n → m ≡ max h 1 → h ≡ g → n / m ≡ n / g
over_some n zero h m x e f =
    let none : n ≡ 0 = eq-zero_of_zero-dvd x in
    let one : m ≡ 1 = omega arith in
    subst (λ i. i / m ≡ i / 0) (sym none) (ap (λ i. 0 / i) one)
over_some n (suc g) h m x e f = ap (λ i. n / i) (let same : m ≡ suc g = omega arith in same)

-- a common factor comes out
pub times_gcd : (k a b : ℕ) → 0 < k → gcd (k * a) (k * b) ≡ k * gcd a b
times_gcd k a b some =
    let whole = is_gcd (k * a) (k * b) in
    let c : ℕ = gcd (k * a) (k * b) / k in
    let is : k * c ≡ gcd (k * a) (k * b) = mul_comm k c ∙ div-mul_cancel k (whole.2 k (dvd-mul_right k a) (dvd-mul_right k b)) in
    let of_a : c ∣ a = dvd_of_mul-dvd-mul_left c some (subst (λ z. z ∣ k * a) (sym is) whole.0) in
    let of_b : c ∣ b = dvd_of_mul-dvd-mul_left c some (subst (λ z. z ∣ k * b) (sym is) whole.1) in
    let less : gcd (k * a) (k * b) ∣ k * gcd a b = subst (λ z. z ∣ k * gcd a b) is (mul-dvd-mul_left c k ((is_gcd a b).2 c of_a of_b)) in
    dvd_antisymm less (whole.2 (k * gcd a b) (mul-dvd-mul_left (gcd a b) k (is_gcd a b).0) (mul-dvd-mul_left (gcd a b) k (is_gcd a b).1))

-- ---- lowest terms
pub top_times : (num den : ℕ) → top num den * gcd num den ≡ num
top_times num den = div-mul_cancel (gcd num den) (is_gcd num den).0

pub bottom_times : (num den : ℕ) → bottom num den * gcd num den ≡ den
bottom_times num den = div-mul_cancel (gcd num den) (is_gcd num den).1

-- a factor of a number above 0 is above 0
pub factor_positive : (a b c : ℕ) → a * b ≡ c → 0 < c → 0 < a
factor_positive zero b c e some = absurd (omega arith)
factor_positive (suc a) b c e some = omega arith

pub top_positive : (num den : ℕ) → 0 < num → 0 < top num den
top_positive num den some = factor_positive _ (gcd num den) num (top_times num den) some

one_factor : (d g : ℕ) → 0 < g → d * g ≤ g → 0 < d → d ≡ 1
one_factor zero g p l q = absurd (omega arith)
one_factor (suc zero) g p l q = refl
one_factor (suc (suc d)) g p l q = absurd (omega arith)

pub lowest_terms : (num den : ℕ) → 0 < num → (top num den * den ≡ bottom num den * num) × ((d : ℕ) → d ∣ top num den → d ∣ bottom num den → d ≡ 1)
lowest_terms num den some =
    let g : ℕ = gcd num den in
    let t : ℕ = top num den in
    let b : ℕ = bottom num den in
    let some_g : 0 < g = gcd_positive num den some in (
      ap (λ x. t * x) (sym (bottom_times num den)) ∙ sym (mul_assoc t b g) ∙ ap (λ x. x * g) (mul_comm t b) ∙ mul_assoc b t g
          ∙ ap (λ x. b * x) (top_times num den),
      λ d x y.
          let of_num : d * g ∣ num = subst (λ z. d * g ∣ z) (top_times num den) (mul-dvd-mul_right d x g) in
          let of_den : d * g ∣ den = subst (λ z. d * g ∣ z) (bottom_times num den) (mul-dvd-mul_right d y g) in
          one_factor d g some_g (le_of_dvd some_g ((is_gcd num den).2 (d * g) of_num of_den)) (pos_of_dvd_of_pos x (top_positive num den some)),
    )
