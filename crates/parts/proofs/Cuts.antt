-- The parts of a list, cut at their bounds.
use Rattle.std.proofs.Common.{◌≡◌, ℕ, suc, ◌+◌, ◌-◌, ◌<◌, ◌≤◌, Bool, true, false, cond, leb, ◌⊎◌, List, [], ◌∷◌, length, take, drop, sym, refl, ap, ◌∙◌, subst, inl, inr, arith, length-drop, length-take, le-leb}
use borrow.Author.Tests.{lt-leb}
use Rattle.std.proofs.lemmas.Bool.{cases_lt}
use Rattle.design.specs.declared.row.Row.{Row}
use Rattle.parts.specs.Parts.{starts, bounds, Part, cuts, cut, holds, place_of}
use Rattle.parts.specs.Bounds.{Steps, Rising}
use Rattle.parts.proofs.Chains.{Chain, Apart, Unless, Inside, seats, seat}
use Rattle.parts.proofs.Holds.{holds_in, holds_past}

-- ---- the bounds rise
pub steps_le : (a : ℕ) (bs : List ℕ) (e : ℕ) → Steps a bs e → a ≤ e
steps_le a [] e h = omega (arith, h)
steps_le a (b ∷ bs) e h = omega (arith, h.0, steps_le b bs e h.1)

steps_starts : (alike : Row → Row → Bool) (a i : ℕ) (q : Row) (rs : List Row) → a < i → Steps a (starts alike i q rs) (i + length rs)
unfolding starts
steps_starts alike a i q [] l = (l, omega arith)
steps_starts alike a i q (r ∷ rs) l = by (alike q r) (steps_starts alike a (suc i) r rs (omega arith)) (steps_starts alike i (suc i) r rs (omega arith))
  where
    shift : (i n : ℕ) → suc i + n ≡ i + suc n
    shift i n = omega arith

    by : (b : Bool) → Steps a (starts alike (suc i) r rs) (suc i + length rs) → Steps i (starts alike (suc i) r rs) (suc i + length rs)
        → Steps a (cond b (starts alike (suc i) r rs) (i ∷ starts alike (suc i) r rs)) (i + suc (length rs))
    by true x y = subst (λ e. Steps a (starts alike (suc i) r rs) e) (shift i (length rs)) x
    by false x y = (l, subst (λ e. Steps i (starts alike (suc i) r rs) e) (shift i (length rs)) y)

pub rising_bounds : (alike : Row → Row → Bool) (list : List Row) → 0 < length list → Rising (bounds alike list) (length list)
unfolding bounds
rising_bounds alike [] l = absurd (omega arith)
rising_bounds alike (r ∷ rs) l = (refl, subst (λ e. Steps 0 (starts alike 1 r rs) e) (one (length rs)) (steps_starts alike 0 1 r rs (omega arith)))
  where
    one : (n : ℕ) → 1 + n ≡ suc n
    one n = omega arith

-- ---- the parts
pub part_length : (list : List Row) (a b : ℕ) → a ≤ b → b ≤ length list → length (take (b - a) (drop a list)) ≡ b - a
part_length list a b h l = length-take (b - a) (drop a list) ∙ omega (arith, length-drop a list)

module _ (sample : ℕ → ℕ) (list : List Row) where
  chain_cuts : (j a : ℕ) (bs : List ℕ) (e : ℕ) → Steps a bs e → e ≤ length list → Chain a (cuts sample list j a bs) e
  chain_cuts j a [] e h l = h
  chain_cuts j a (b ∷ bs) e h l =
      let n = part_length list a b (omega (arith, h.0)) (omega (arith, steps_le b bs e h.1)) in
      (refl, omega (arith, n, h.0), subst (λ x. Chain x (cuts sample list (suc j) b bs) e) (ends n h.0) (chain_cuts (suc j) b bs e h.1 l))
    where
      ends : length (take (b - a) (drop a list)) ≡ b - a → a < b → b ≡ a + length (take (b - a) (drop a list))
      ends n k = omega (arith, n)

  pub chain_cut : (bs : List ℕ) → Rising bs (length list) → Chain 0 (cut sample list bs) (length list)
  chain_cut [] h = absurd h
  chain_cut (a ∷ bs) h = subst (λ x. Chain x (cuts sample list 0 a bs) (length list)) h.0 (chain_cuts 0 a bs (length list) h.1 (omega arith))

  -- ---- the seat of a row among the bounds is the place of its part
  seats_place : (i j a : ℕ) (bs : List ℕ) (e k : ℕ) → Steps a bs e → e ≤ length list → a ≤ k → k < e → j + seats bs k ≡ place_of j (cuts sample list i a bs) k
  unfolding seats
  seats_place i j a [] e k h l x y = absurd (omega (arith, h))
  seats_place i j a (b ∷ bs) e k h l x y =
      by (cases_lt k b) (part_length list a b (omega (arith, h.0)) (omega (arith, steps_le b bs e h.1))) (λ z. seats_place (suc i) (suc j) b bs e k h.1 l z y)
    where
      plus : (j : ℕ) → j + 0 ≡ j
      plus j = omega arith

      shift : (j n : ℕ) → j + suc n ≡ suc j + n
      shift j n = omega arith

      by : (k < b) ⊎ (b ≤ k) → length (take (b - a) (drop a list)) ≡ b - a → (b ≤ k → suc j + seats bs k ≡ place_of (suc j) (cuts sample list (suc i) b bs) k)
          → j + cond (leb b k) (suc (seats bs k)) 0
          ≡ cond (holds (record { at = a; rows = take (b - a) (drop a list); sample = sample i }) k) j (place_of (suc j) (cuts sample list (suc i) b bs) k)
      by (inl z) n ih =
          ap (λ t. j + cond t (suc (seats bs k)) 0) (lt-leb b k z) ∙ plus j
          ∙ sym (ap (λ t. cond t j (place_of (suc j) (cuts sample list (suc i) b bs) k))
          (holds_in (record { at = a; rows = take (b - a) (drop a list); sample = sample i }) k x (omega (arith, n, h.0))))
      by (inr z) n ih =
          ap (λ t. j + cond t (suc (seats bs k)) 0) (le-leb b k z) ∙ shift j (seats bs k) ∙ ih z
          ∙ sym (ap (λ t. cond t j (place_of (suc j) (cuts sample list (suc i) b bs) k))
          (holds_past (record { at = a; rows = take (b - a) (drop a list); sample = sample i }) k (omega (arith, n, h.0))))

  pub seat_place : (bs : List ℕ) (k : ℕ) → Rising bs (length list) → k < length list → seat bs k ≡ place_of 0 (cut sample list bs) k
  seat_place [] k h l = absurd h
  seat_place (a ∷ bs) k h l = plus (seats bs k) ∙ seats_place 0 0 a bs (length list) k h.1 (omega arith) (omega (arith, h.0)) l
    where
      plus : (n : ℕ) → n ≡ 0 + n
      plus n = omega arith

-- ---- parts that follow one another
pub chain_apart : (a : ℕ) (ps : List Part) (e : ℕ) → Chain a ps e → Apart a ps e
chain_apart a [] e c = omega (arith, c)
chain_apart a (p ∷ ps) e c =
    (omega (arith, c.0), c.1, subst (λ x. Apart (x + length p.rows) ps e) (sym c.0) (chain_apart (a + length p.rows) ps e c.2))

pub chain_inside : (a : ℕ) (ps : List Part) (e k : ℕ) → Chain a ps e → a ≤ k → k < e → Inside ps k
chain_inside a [] e k c l h = absurd (omega (arith, c))
chain_inside a (p ∷ ps) e k c l h = by (λ x. chain_inside (a + length p.rows) ps e k c.2 x h) (cases_lt k (p.at + length p.rows))
  where
    by : (a + length p.rows ≤ k → Inside ps k) → (k < p.at + length p.rows) ⊎ (p.at + length p.rows ≤ k) → Unless (holds p k) (Inside ps k)
    by ih (inl x) = subst (λ b. Unless b (Inside ps k)) (sym (holds_in p k (omega (arith, c.0)) x)) tt
    by ih (inr x) = subst (λ b. Unless b (Inside ps k)) (sym (holds_past p k x)) (ih (omega (arith, c.0)))
