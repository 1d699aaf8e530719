-- Laws of the weights of trees of outcomes.
use mathlib.Core.Path.{◌≡◌, refl, sym, ap, fun_ext, ◌∙◌}
use mathlib.Core.Bool.{Bool, true, false, not, cond, true≢false}
use mathlib.Core.Logic.{◌↔◌}
use Prim.Native.Nat.{ℕ, ◌+◌, ◌*◌, ◌<◌}
use native.Mathlib.Nat.{mul-pos, eq_of_mul-eq-mul_right, eq_of_mul-eq-mul_left}
use native.Mathlib.Omega.{arith}
use lib.Dec.{T, ltb}
use borrow.Author.Tests.{ltb-true, ltb-false}
use Rattle.outcomes.specs.Sums.{sum, product, others}
use Rattle.outcomes.specs.Trees.{Tree, finished, branching, Sample, weight, expect, weight_of, Average, Share, HasWays, Every, Lawful}
use Rattle.outcomes.proofs.Sums.{sum_same, sum_add, sum_scale, sum_times, sum_constant, sum_above, sum_two, product_positive, product_ones, others_times, others_positive}

-- ---- the total weight is above 0
pub positive : {A : Type 0} (t : Tree A) → HasWays t → 0 < weight t
unfolding weight
positive (finished a) s = omega arith
positive (branching m sub) s = mul-pos s.0 (product_positive m (λ d. weight (sub d)) (λ d l. positive (sub d) (s.1 d l)))

-- ---- the martingale law: if X has the average num d / den in each subtree, and num₀ / den is the average of the
-- num d / den over the m ways, then X has the average num₀ / den in the tree
pub martingale : {A : Type 0} (X : A → ℕ) (m : ℕ) (sub : ℕ → Tree A) (den num₀ : ℕ) (num : ℕ → ℕ)
    → ((d : ℕ) → d < m → Average X (num d) den (sub d))
    → num₀ * m ≡ sum m num
    → Average X num₀ den (branching m sub)
unfolding weight expect
martingale X m sub den num₀ num each whole =
    let W : ℕ → ℕ = λ d. weight (sub d) in
    let E : ℕ → ℕ = λ d. expect X (sub d) in
    let same : (d : ℕ) → d < m → den * (E d * others m W d) ≡ num d * product m W = λ d l.
    omega (arith, ap (λ x. x * others m W d) (each d l), ap (λ x. num d * x) (others_times m W d l)) in
    omega (
      arith,
      sum_scale m den (λ d. E d * others m W d),
      sum_same m (λ d. den * (E d * others m W d)) (λ d. num d * product m W) same,
      sum_times m (product m W) num,
      ap (λ x. x * product m W) whole,
    )

-- ---- expectations
pub expect_every : {A : Type 0} (X Y : A → ℕ) (t : Tree A) → Every (λ a. X a ≡ Y a) t → expect X t ≡ expect Y t
unfolding expect
expect_every X Y (finished a) h = h
expect_every X Y (branching m sub) h =
    sum_same m (λ d. expect X (sub d) * others m (λ e. weight (sub e)) d) (λ d. expect Y (sub d) * others m (λ e. weight (sub e)) d)
    (λ d l. ap (λ x. x * others m (λ e. weight (sub e)) d) (expect_every X Y (sub d) (h d l)))

pub expect_same : {A : Type 0} (X Y : A → ℕ) (t : Tree A) → ((a : A) → X a ≡ Y a) → expect X t ≡ expect Y t
expect_same X Y t h = ap (λ (Z : _). expect Z t) (fun_ext h)

pub expect_add : {A : Type 0} (X Y : A → ℕ) (t : Tree A) → expect (λ a. X a + Y a) t ≡ expect X t + expect Y t
unfolding expect
expect_add X Y (finished a) = refl
expect_add X Y (branching m sub) =
    let O : ℕ → ℕ = others m (λ e. weight (sub e)) in
    sum_same m (λ d. expect (λ a. X a + Y a) (sub d) * O d) (λ d. expect X (sub d) * O d + expect Y (sub d) * O d)
    (λ d l. omega (arith, ap (λ x. x * O d) (expect_add X Y (sub d))))
    ∙ sum_add m (λ d. expect X (sub d) * O d) (λ d. expect Y (sub d) * O d)

pub expect_scale : {A : Type 0} (c : ℕ) (X : A → ℕ) (t : Tree A) → expect (λ a. c * X a) t ≡ c * expect X t
unfolding expect
expect_scale c X (finished a) = refl
expect_scale c X (branching m sub) =
    let O : ℕ → ℕ = others m (λ e. weight (sub e)) in
    sum_same m (λ d. expect (λ a. c * X a) (sub d) * O d) (λ d. c * (expect X (sub d) * O d))
    (λ d l. omega (arith, ap (λ x. x * O d) (expect_scale c X (sub d))))
    ∙ sum_scale m c (λ d. expect X (sub d) * O d)

pub expect_constant : {A : Type 0} (c : ℕ) (t : Tree A) → expect (λ a. c) t ≡ c * weight t
unfolding expect weight
expect_constant c (finished a) = omega arith
expect_constant c (branching m sub) =
    let W : ℕ → ℕ = λ d. weight (sub d) in
    sum_same m (λ d. expect (λ a. c) (sub d) * others m W d) (λ d. c * product m W)
    (λ d l. omega (arith, ap (λ x. x * others m W d) (expect_constant c (sub d)), ap (λ x. c * x) (others_times m W d l)))
    ∙ sum_constant m (c * product m W) ∙ omega arith

-- a sum of products with positive factors is 0 only if each value is 0
pub expect_zero : {A : Type 0} (X : A → ℕ) (t : Tree A) → HasWays t → expect X t ≡ 0 → Every (λ a. X a ≡ 0) t
unfolding expect
expect_zero X (finished a) s h = h
expect_zero X (branching m sub) s h = λ d l.
    let W : ℕ → ℕ = λ e. weight (sub e) in
    let apart : 0 < others m W d = others_positive m W d (λ i k. positive (sub i) (s.1 i k)) in
    let none : expect X (sub d) * others m W d ≡ 0 * others m W d = omega (arith, h, sum_above m (λ e. expect X (sub e) * others m W e) d l) in
    expect_zero X (sub d) (s.1 d l) (eq_of_mul-eq-mul_right (others m W d) apart (expect X (sub d)) 0 none)

pub zero_expect : {A : Type 0} (X : A → ℕ) (t : Tree A) → Every (λ a. X a ≡ 0) t → expect X t ≡ 0
zero_expect X t h = expect_every X (λ a. 0) t h ∙ expect_constant 0 t ∙ omega arith

pub every_map : {A : Type 0} {P Q : A → Type 0} (t : Tree A) → ((a : A) → P a → Q a) → Every P t → Every Q t
every_map (finished a) f h = f a h
every_map (branching m sub) f h = λ d l. every_map (sub d) f (h d l)

pub every_all : {A : Type 0} {P : A → Type 0} (t : Tree A) → ((a : A) → P a) → Every P t
every_all (finished a) f = f a
every_all (branching m sub) f = λ d l. every_all (sub d) f

-- ---- certainty
-- the weights of the outcomes that pass, and of those that do not, add up to the total weight
pub event_and_not : {A : Type 0} (p : A → Bool) (t : Tree A) → weight_of p t + weight_of (λ a. not (p a)) t ≡ weight t
event_and_not p t =
    sym (expect_add (λ a. cond (p a) 1 0) (λ a. cond (not (p a)) 1 0) t)
    ∙ expect_same (λ a. cond (p a) 1 0 + cond (not (p a)) 1 0) (λ a. 1) t (λ a. one (p a))
    ∙ expect_constant 1 t ∙ omega arith
  where
    one : (b : Bool) → ◌≡◌ {A = ℕ} (cond b 1 0 + cond (not b) 1 0) 1
    one true = refl
    one false = refl

none : (b : Bool) → ◌≡◌ {A = ℕ} (cond b 1 0) 0 ↔ (b ≡ false)
none true = (λ e. absurd (omega arith), λ e. absurd (true≢false e))
none false = (λ e. refl, λ e. refl)

none_not : (b : Bool) → ◌≡◌ {A = ℕ} (cond (not b) 1 0) 0 ↔ T b
none_not true = (λ e. tt, λ e. refl)
none_not false = (λ e. absurd (omega arith), λ e. absurd e)

-- an event of weight 0 never occurs
pub never : {A : Type 0} (p : A → Bool) (t : Tree A) → HasWays t → Every (λ a. p a ≡ false) t ↔ (weight_of p t ≡ 0)
never p t s = (
  λ h. zero_expect (λ a. cond (p a) 1 0) t (every_map t (λ a. (none (p a)).1) h),
  λ h. every_map t (λ a. (none (p a)).0) (expect_zero (λ a. cond (p a) 1 0) t s h),
)

-- an event of the total weight always occurs
pub always : {A : Type 0} (p : A → Bool) (t : Tree A) → HasWays t → Every (λ a. T (p a)) t ↔ (weight_of p t ≡ weight t)
always p t s = (
  λ h. omega (arith, event_and_not p t, zero_expect (λ a. cond (not (p a)) 1 0) t (every_map t (λ a. (none_not (p a)).1) h)),
  λ h. every_map t (λ a. (none_not (p a)).0) (expect_zero (λ a. cond (not (p a)) 1 0) t s (omega (arith, event_and_not p t))),
)

-- the share num / den of an event is 1 just if it always occurs
pub share_whole : {A : Type 0} (p : A → Bool) (num den : ℕ) (t : Tree A) → HasWays t → 0 < den → num * weight t ≡ den * weight_of p t
    → (num ≡ den) ↔ Every (λ a. T (p a)) t
share_whole p num den t s pos h = (
  λ e. (always p t s).1 (eq_of_mul-eq-mul_left den pos (weight_of p t) (weight t) (sym h ∙ ap (λ x. x * weight t) e)),
  λ e. eq_of_mul-eq-mul_right (weight t) (positive t s) num den (h ∙ ap (λ x. den * x) ((always p t s).0 e)),
)

-- an average has one numerator over its denominator
pub average_one : {A : Type 0} (X : A → ℕ) (num num' den : ℕ) (t : Tree A) → HasWays t → Average X num den t → Average X num' den t → num ≡ num'
average_one X num num' den t s h h' = eq_of_mul-eq-mul_right (weight t) (positive t s) num num' (h ∙ sym h')

-- a lawful tree has ways
pub lawful_ways : (units : ℕ) (t : Tree Sample) → Lawful units t → HasWays t
lawful_ways units (finished u) h = tt
lawful_ways units (branching m sub) h = (h.0, λ d l. lawful_ways units (sub d) (h.2 d l))

-- ---- one throw
pub one_throw_weight : {A : Type 0} (m : ℕ) (f : ℕ → A) → weight (branching m (λ d. finished (f d))) ≡ m
unfolding weight
one_throw_weight m f = omega (arith, ap (λ x. m * x) (product_ones m))

pub one_throw_expect : {A : Type 0} (X : A → ℕ) (m : ℕ) (f : ℕ → A) → expect X (branching m (λ d. finished (f d))) ≡ sum m (λ d. X (f d))
unfolding weight expect
one_throw_expect X m f = sum_same m (λ d. X (f d) * others m (λ e. 1) d) (λ d. X (f d))
    (λ d l. omega (arith, ap (λ x. X (f d) * x) (others_times m (λ e. 1) d l), ap (λ x. X (f d) * x) (product_ones m)))

-- ---- shares
pub share_martingale : (k m : ℕ) (sub : ℕ → Tree Sample) (den num₀ : ℕ) (num : ℕ → ℕ)
    → ((d : ℕ) → d < m → Share k (num d) den (sub d)) → num₀ * m ≡ sum m num → Share k num₀ den (branching m sub)
share_martingale k m sub den num₀ num each whole = martingale (λ u. cond (u k) 1 0) m sub den num₀ num each whole

-- what holds of both holds of the one that a test picks
pub either : {A : Type 0} (P : A → Type 0) (b : Bool) (x y : A) → P x → P y → P (cond b x y)
either P true x y p q = p
either P false x y p q = q

-- two ways: the a throws below a go on with L, and the b others with R
pub share_two : (k m a b : ℕ) (L R : Tree Sample) (den num₀ x y : ℕ)
    → a + b ≡ m
    → (0 < a → Share k x den L)
    → (0 < b → Share k y den R)
    → num₀ * m ≡ a * x + b * y
    → Share k num₀ den (branching m (λ d. cond (ltb d a) L R))
share_two k m a b L R den num₀ x y split left right whole =
    share_martingale k m (λ d. cond (ltb d a) L R) den num₀ (λ d. cond (ltb d a) x y)
    (λ d l. one d l (ltb d a) refl)
    (whole ∙ sym (sum_two a b x y) ∙ ap (λ n. sum n (λ d. cond (ltb d a) x y)) split)
  where
    one : (d : ℕ) → d < m → (t : Bool) → ltb d a ≡ t → Share k (cond t x y) den (cond t L R)
    one d l true e = left (omega (arith, ltb-true d a e))
    one d l false e = right (omega (arith, ltb-false d a e))
