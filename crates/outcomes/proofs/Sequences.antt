-- One tree in the place of each outcome of another.
use mathlib.Core.Path.{◌≡◌, sym, ap, ◌∙◌}
use mathlib.Core.Logic.{◌↔◌}
use Prim.Native.Nat.{ℕ, ◌*◌, ◌<◌}
use native.Mathlib.Nat.{eq_of_mul-eq-mul_left}
use native.Mathlib.Omega.{arith}
use Rattle.outcomes.specs.Sums.{sum, product, others}
use Rattle.outcomes.specs.Trees.{Tree, finished, branching, weight, expect, Average, HasWays, Every, bind}
use Rattle.outcomes.proofs.Sums.{sum_same, sum_scale, sum_times, others_times}
use Rattle.outcomes.proofs.Trees.{positive, every_map, expect_every, expect_constant}

-- if after each outcome a of the first tree X has the average Y a / den, then X has the average of Y / den
pub sequence : {A B : Type 0} (X : B → ℕ) (Y : A → ℕ) (den : ℕ) (t : Tree A) (h : A → Tree B)
    → Every (λ a. Average X (Y a) den (h a)) t
    → expect Y t * weight (bind t h) ≡ den * weight t * expect X (bind t h)
unfolding weight expect
sequence X Y den (finished a) h e = omega arith
sequence X Y den (branching m sub) h e =
    let W : ℕ → ℕ = λ d. weight (sub d) in
    let E : ℕ → ℕ = λ d. expect Y (sub d) in
    let V : ℕ → ℕ = λ d. weight (bind (sub d) h) in
    let F : ℕ → ℕ = λ d. expect X (bind (sub d) h) in
    let each : (d : ℕ) → d < m → E d * others m W d * product m V ≡ den * product m W * (F d * others m V d) = λ d l.
    omega (
      arith,
      ap (λ x. x * (others m W d * others m V d)) (sequence X Y den (sub d) h (e d l)),
      ap (λ x. E d * others m W d * x) (others_times m V d l),
      ap (λ x. x * (den * F d * others m V d)) (others_times m W d l),
    ) in
    let both : sum m (λ d. E d * others m W d) * product m V ≡ den * product m W * sum m (λ d. F d * others m V d) =
    sym (sum_times m (product m V) (λ d. E d * others m W d))
    ∙ sum_same m (λ d. E d * others m W d * product m V) (λ d. den * product m W * (F d * others m V d)) each
    ∙ sum_scale m (den * product m W) (λ d. F d * others m V d) in
    omega (arith, ap (λ x. m * x) both)

pub has_ways_bind : {A B : Type 0} (t : Tree A) (h : A → Tree B) → HasWays t → Every (λ a. HasWays (h a)) t → HasWays (bind t h)
has_ways_bind (finished a) h s e = e
has_ways_bind (branching m sub) h s e = (s.0, λ d l. has_ways_bind (sub d) h (s.1 d l) (e d l))

pub every_bind : {A B : Type 0} (P : B → Type 0) (t : Tree A) (h : A → Tree B) → Every P (bind t h) ↔ Every (λ a. Every P (h a)) t
every_bind P (finished a) h = (λ e. e, λ e. e)
every_bind P (branching m sub) h = (λ e d l. (every_bind P (sub d) h).0 (e d l), λ e d l. (every_bind P (sub d) h).1 (e d l))

-- the sequence law in fractions: if Y has the average num / den₁ over the first tree, then X has num / (den₁ * den) over both
pub sequence_average : {A B : Type 0} (X : B → ℕ) (Y : A → ℕ) (num den₁ den : ℕ) (t : Tree A) (h : A → Tree B) → HasWays t
    → Every (λ a. Average X (Y a) den (h a)) t → Average Y num den₁ t → Average X num (den₁ * den) (bind t h)
sequence_average X Y num den₁ den t h s e first =
    eq_of_mul-eq-mul_left (weight t) (positive t s) (num * weight (bind t h)) (den₁ * den * expect X (bind t h))
    (omega (arith, ap (λ x. x * weight (bind t h)) first, ap (λ x. den₁ * x) (sequence X Y den t h e)))

-- the second tree leaves alone what X looks at
pub first_kept : {A B : Type 0} (X : B → ℕ) (Y : A → ℕ) (num den : ℕ) (t : Tree A) (h : A → Tree B) → HasWays t
    → Every (λ a. Every (λ b. X b ≡ Y a) (h a)) t → Average Y num den t → Average X num den (bind t h)
first_kept X Y num den t h s e first =
    omega (
      arith,
      sequence_average X Y num den 1 t h s
          (every_map t (λ a k. omega (arith, expect_every X (λ b. Y a) (h a) k, expect_constant (Y a) (h a))) e) first,
    )

-- X has one average in each second tree
pub second_kept : {A B : Type 0} (X : B → ℕ) (num den : ℕ) (t : Tree A) (h : A → Tree B) → HasWays t
    → Every (λ a. Average X num den (h a)) t → Average X num den (bind t h)
second_kept X num den t h s e =
    eq_of_mul-eq-mul_left (weight t) (positive t s) (num * weight (bind t h)) (den * expect X (bind t h))
    (omega (arith, sequence X (λ a. num) den t h e, ap (λ x. x * weight (bind t h)) (expect_constant num t)))
