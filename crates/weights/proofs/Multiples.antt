-- The least common multiple of two numbers.
use Rattle.std.proofs.Common.{◌≡◌, ℕ, zero, suc, ◌*◌, ◌/◌, ◌<◌, ◌≤◌, max, Bool, true, false, cond, Some, None, Option, sym, refl, ap, ◌∙◌, subst, inl, inr, ◌⊎◌, arith}
use Prim.Native.Nat.{◌∣◌}
use Rattle.std.specs.Option.{unwrap_or}
use Rattle.std.proofs.lemmas.Bool.{ltb-true, lt-ltb, and_parts, and_from, both_ways, cases_lt}
use Rattle.std.proofs.lemmas.Nat.Gcd.{le_of_dvd}
use Rattle.std.proofs.Math.Nat.{div-mul_cancel, mul-div_cancel', div-le_self, mul-le-mul_right, dvd-mul_left, dvd-mul_right, mul-dvd-mul_left, mul-dvd-mul_right, dvd_of_mul-dvd-mul_right, mul_comm, mul_assoc}
use Rattle.design.proofs.Firsts.{first_none}
use Rattle.design.specs.Faults.{or_else}
use Rattle.design.specs.Lists.{first}
use Rattle.weights.specs.Scale.{gcd, lcm, common_multiple}
use Rattle.weights.proofs.Divisors.{dividing, divides_from, is_gcd, over_some, gcd_positive, times_gcd, factor_positive}

-- ---- the first number that passes, and none before does
first_passes : (n : ℕ) (p : ℕ → Bool) (k : ℕ) → first n p ≡ Some k → (first k p ≡ None) × (p k ≡ true)
first_passes zero p k e = cc
first_passes (suc n) p k e = by (first_passes n p k) (first n p) refl e
  where
    last : (b : Bool) → p n ≡ b → cond b (Some n) None ≡ Some k → first n p ≡ None → (first k p ≡ None) × (p k ≡ true)
    last true t f none =
        let same : n ≡ k = cc in
        (subst (λ i. first i p ≡ None) same none, subst (λ i. p i ≡ true) same t)
    last false t f none = absurd (let z : ◌≡◌ {A = Option ℕ} None (Some k) = f in cc)

    by : (first n p ≡ Some k → (first k p ≡ None) × (p k ≡ true)) → (o : Option ℕ) → first n p ≡ o
        → or_else o (cond (p n) (Some n) None) ≡ Some k → (first k p ≡ None) × (p k ≡ true)
    by before None f g = last (p n) refl g f
    by before (Some j) f g = before (f ∙ g)

-- where a number below the end passes, the first one that passes is no greater
first_is : (n m d : ℕ) (p : ℕ → Bool) → m < n → p m ≡ true → (unwrap_or (first n p) d ≤ m) × (p (unwrap_or (first n p) d) ≡ true)
first_is n m d p l t = by (first n p) refl
  where
    by : (o : Option ℕ) → first n p ≡ o → (unwrap_or o d ≤ m) × (p (unwrap_or o d) ≡ true)
    by None e = absurd (both_ways (p m) (first_none n p e m l) t)
    by (Some k) e = (least (cases_lt m k), (first_passes n p k e).1)
      where
        least : (m < k) ⊎ (k ≤ m) → k ≤ m
        least (inl q) = absurd (both_ways (p m) (first_none k p (first_passes n p k e).0 m q) t)
        least (inr q) = q

-- ---- common multiples
multiple : (a b m : ℕ) → common_multiple a b m ≡ true → (0 < m) × (a ∣ m) × (b ∣ m)
multiple a b m e =
    let all = and_parts _ _ e in
    let front = and_parts _ _ all.0 in
    (ltb-true 0 m front.0, dividing a m front.1, dividing b m all.1)

multiple_from : (a b m : ℕ) → 0 < m → a ∣ m → b ∣ m → common_multiple a b m ≡ true
multiple_from a b m some x y = and_from _ _ (and_from _ _ (lt-ltb 0 m some) (divides_from a m x)) (divides_from b m y)

-- a over the greatest common divisor, times b
over : ℕ → ℕ → ℕ
over a b = a / gcd a b * b

over_left : (a b : ℕ) → a ∣ over a b
unfolding over
over_left a b =
    let g : ℕ = gcd a b in
    let e : a * (b / g) ≡ a / g * b =
    ap (λ x. x * (b / g)) (sym (div-mul_cancel g (is_gcd a b).0)) ∙ mul_assoc (a / g) g (b / g) ∙ ap (λ x. a / g * x) (mul-div_cancel' g (is_gcd a b).1) in
    subst (λ x. a ∣ x) e (dvd-mul_right a (b / g))

over_positive : (a b : ℕ) → 0 < a → 0 < b → 0 < over a b
unfolding over
over_positive a b p q = product (a / gcd a b) b (factor_positive (a / gcd a b) (gcd a b) a (div-mul_cancel (gcd a b) (is_gcd a b).0) p) q
  where
    product : (x y : ℕ) → 0 < x → 0 < y → 0 < x * y
    product zero y p q = absurd (omega arith)
    product (suc x) zero p q = absurd (omega arith)
    product (suc x) (suc y) p q = omega arith

-- it divides each common multiple
over_least : (a b m : ℕ) → 0 < a → 0 < m → a ∣ m → b ∣ m → over a b ∣ m
unfolding over
over_least a b m p q x y =
    let g : ℕ = gcd a b in
    let one : a * b ∣ m * a = subst (λ z. a * b ∣ z) (mul_comm a m) (mul-dvd-mul_left b a y) in
    let two : a * b ∣ m * b = mul-dvd-mul_right a x b in
    let both : a * b ∣ m * g = subst (λ z. a * b ∣ z) (times_gcd m a b q) ((is_gcd (m * a) (m * b)).2 (a * b) one two) in
    let same : a * b ≡ a / g * b * g =
    ap (λ z. z * b) (sym (div-mul_cancel g (is_gcd a b).0)) ∙ mul_assoc (a / g) g b ∙ ap (λ z. a / g * z) (mul_comm g b) ∙ sym (mul_assoc (a / g) b g) in
    dvd_of_mul-dvd-mul_right (a / g * b) (gcd_positive a b p) (subst (λ z. z ∣ m * g) same both)

-- ---- the least common multiple
lcm_is : (a b : ℕ) → 0 < a → 0 < b → lcm a b ≡ over a b
unfolding lcm over
lcm_is a b p q =
    let few : over a b ≤ a * b = mul-le-mul_right b (div-le_self a (gcd a b)) in
    let test = multiple_from a b (over a b) (over_positive a b p q) (over_left a b) (dvd-mul_left b (a / gcd a b)) in
    let f = first_is (suc (a * b)) (over a b) 0 (common_multiple a b) (omega arith) test in
    let m = multiple a b _ f.1 in
    let more : over a b ≤ lcm a b = le_of_dvd m.0 (over_least a b _ p m.0 m.1 m.2) in
    omega (arith, f.0, more)

pub lcm_positive : (a b : ℕ) → 0 < a → 0 < b → 0 < lcm a b
lcm_positive a b p q = subst (λ m. 0 < m) (sym (lcm_is a b p q)) (over_positive a b p q)

pub lcm_left : (a b : ℕ) → 0 < a → 0 < b → a ∣ lcm a b
lcm_left a b p q = subst (λ m. a ∣ m) (sym (lcm_is a b p q)) (over_left a b)

pub lcm_right : (a b : ℕ) → 0 < a → 0 < b → b ∣ lcm a b
unfolding over
lcm_right a b p q = subst (λ m. b ∣ m) (sym (lcm_is a b p q)) (dvd-mul_left b (a / gcd a b))

pub lcm_least : (a b m : ℕ) → 0 < a → 0 < b → 0 < m → a ∣ m → b ∣ m → lcm a b ∣ m
lcm_least a b m p q some x y = subst (λ i. i ∣ m) (sym (lcm_is a b p q)) (over_least a b m p some x y)

-- as it is worked out
pub lcm_over : (a b g common : ℕ) → 0 < a → 0 < b → common ≡ max g 1 → g ≡ gcd a b → a / common * b ≡ lcm a b
unfolding over
lcm_over a b g common p q e f = ap (λ x. x * b) (over_some a (gcd a b) g common (is_gcd a b).0 e f) ∙ sym (lcm_is a b p q)
