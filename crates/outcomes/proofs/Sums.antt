-- Laws of sums and products.
use mathlib.Core.Path.{◌≡◌, refl, sym, ap, ap₂, ◌∙◌}
use mathlib.Core.Bool.{Bool, true, false, cond}
use Prim.Native.Nat.{ℕ, zero, suc, ◌+◌, ◌*◌, ◌≤◌, ◌<◌}
use native.Mathlib.Nat.{mul-pos, add-zero, add-suc}
use native.Mathlib.Decide.{ℕ_discrete}
use native.Mathlib.Omega.{arith}
use lib.Dec.{eqb, ltb}
use borrow.Author.Tests.{eq-eqb, ne_eqb, lt-ltb, le-ltb}
use Rattle.outcomes.specs.Sums.{sum, product, others}

pub sum_same : (n : ℕ) (f g : ℕ → ℕ) → ((i : ℕ) → i < n → f i ≡ g i) → sum n f ≡ sum n g
sum_same zero f g h = refl
sum_same (suc n) f g h = ap₂ ◌+◌ (sum_same n f g (λ i l. h i (omega arith))) (h n (omega arith))

pub sum_add : (n : ℕ) (f g : ℕ → ℕ) → sum n (λ i. f i + g i) ≡ sum n f + sum n g
sum_add zero f g = refl
sum_add (suc n) f g = omega (arith, sum_add n f g)

pub sum_scale : (n c : ℕ) (f : ℕ → ℕ) → sum n (λ i. c * f i) ≡ c * sum n f
sum_scale zero c f = omega arith
sum_scale (suc n) c f = omega (arith, sum_scale n c f)

pub sum_times : (n c : ℕ) (f : ℕ → ℕ) → sum n (λ i. f i * c) ≡ sum n f * c
sum_times zero c f = omega arith
sum_times (suc n) c f = omega (arith, sum_times n c f)

pub sum_constant : (n c : ℕ) → sum n (λ i. c) ≡ n * c
sum_constant zero c = omega arith
sum_constant (suc n) c = omega (arith, sum_constant n c)

pub sum_zero : (n : ℕ) (f : ℕ → ℕ) → ((i : ℕ) → i < n → f i ≡ 0) → sum n f ≡ 0
sum_zero zero f h = refl
sum_zero (suc n) f h = omega (arith, sum_zero n f (λ i l. h i (omega arith)), h n (omega arith))

pub sum_le : (n : ℕ) (f g : ℕ → ℕ) → ((i : ℕ) → i < n → f i ≤ g i) → sum n f ≤ sum n g
sum_le zero f g h = omega arith
sum_le (suc n) f g h = omega (arith, sum_le n f g (λ i l. h i (omega arith)), h n (omega arith))

-- no summand is above the sum
pub sum_above : (n : ℕ) (f : ℕ → ℕ) (i : ℕ) → i < n → f i ≤ sum n f
sum_above zero f i l = omega arith
sum_above (suc n) f i l = elim (ℕ_discrete i n) [
  | yes e ↦ omega (arith, ap f e)
  | no e ↦ omega (arith, sum_above n f i (omega arith))
]

-- only one summand is not 0
pub sum_single : (n : ℕ) (f : ℕ → ℕ) (i : ℕ) → i < n → ((j : ℕ) → j < n → ¬ (j ≡ i) → f j ≡ 0) → sum n f ≡ f i
sum_single zero f i l h = omega arith
sum_single (suc n) f i l h = elim (ℕ_discrete i n) [
  | yes e ↦ omega (arith, ap f e, sum_zero n f (λ j k. h j (omega arith) (omega arith)))
  | no e ↦ omega (arith, sum_single n f i (omega arith) (λ j k. h j (omega arith)), h n (omega arith) (omega arith))
]

-- x for each of the first a, and y for each of the b others
pub sum_two : (a b x y : ℕ) → sum (a + b) (λ d. cond (ltb d a) x y) ≡ a * x + b * y
sum_two a zero x y =
    rw add-zero (sum_same a (λ d. cond (ltb d a) x y) (λ d. x) (λ d l. ap (λ t. cond t x y) (lt-ltb d a l)) ∙ sum_constant a x ∙ omega arith)
sum_two a (suc b) x y = rw add-suc (omega (arith, sum_two a b x y, ap (λ t. cond t x y) (le-ltb (a + b) a (omega arith))))

-- the first a, and then the b others
pub sum_split : (a b : ℕ) (f : ℕ → ℕ) → sum (a + b) f ≡ sum a f + sum b (λ i. f (a + i))
sum_split a zero f = rw add-zero (omega arith)
sum_split a (suc b) f = rw add-suc (omega (arith, sum_split a b f))

pub sum_swap : (n m : ℕ) (f : ℕ → ℕ → ℕ) → sum n (λ i. sum m (λ j. f i j)) ≡ sum m (λ j. sum n (λ i. f i j))
sum_swap zero m f = sym (sum_zero m (λ j. 0) (λ j l. refl))
sum_swap (suc n) m f = omega (arith, sum_swap n m f, sum_add m (λ j. sum n (λ i. f i j)) (λ j. f n j))

pub product_same : (n : ℕ) (f g : ℕ → ℕ) → ((i : ℕ) → i < n → f i ≡ g i) → product n f ≡ product n g
product_same zero f g h = refl
product_same (suc n) f g h = ap₂ ◌*◌ (product_same n f g (λ i l. h i (omega arith))) (h n (omega arith))

pub product_ones : (n : ℕ) → product n (λ i. 1) ≡ 1
product_ones zero = refl
product_ones (suc n) = omega (arith, product_ones n)

pub product_positive : (n : ℕ) (f : ℕ → ℕ) → ((i : ℕ) → i < n → 0 < f i) → 0 < product n f
product_positive zero f h = omega arith
product_positive (suc n) f h = mul-pos (product_positive n f (λ i l. h i (omega arith))) (h n (omega arith))

-- the product without a factor, times that factor
pub others_times : (n : ℕ) (f : ℕ → ℕ) (d : ℕ) → d < n → f d * others n f d ≡ product n f
others_times zero f d l = omega arith
others_times (suc n) f d l = elim (ℕ_discrete d n) [
  | yes e ↦ last e
  | no e ↦ before e (others_times n f d (omega arith))
]
  where
    last : d ≡ n → f d * others (suc n) f d ≡ product (suc n) f
    last e =
        let front : others n f d ≡ product n f =
        product_same n (λ i. cond (eqb i d) 1 (f i)) f (λ i k. ap (λ b. cond b 1 (f i)) (ne_eqb i d (omega arith))) in
        let one : cond (eqb n d) 1 (f n) ≡ 1 = ap (λ b. cond b 1 (f n)) (eq-eqb n d (sym e)) in
        rw (front, one) (omega (arith, ap (λ x. x * product n f) (ap f e)))

    before : ¬ (d ≡ n) → f d * others n f d ≡ product n f → f d * others (suc n) f d ≡ product (suc n) f
    before e ih =
        let here : cond (eqb n d) 1 (f n) ≡ f n = ap (λ b. cond b 1 (f n)) (ne_eqb n d (omega arith)) in
        rw here (omega (arith, ap (λ x. x * f n) ih))

pub others_positive : (n : ℕ) (f : ℕ → ℕ) (d : ℕ) → ((i : ℕ) → i < n → 0 < f i) → 0 < others n f d
others_positive n f d h = product_positive n (λ i. cond (eqb i d) 1 (f i)) (λ i l. each (eqb i d) i (h i l))
  where
    each : (b : Bool) (i : ℕ) → 0 < f i → 0 < cond b 1 (f i)
    each true i p = omega arith
    each false i p = p
