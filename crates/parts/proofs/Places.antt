-- The bounds of a list's parts, place by place, and the part at each place.
use Rattle.std.proofs.Common.{◌≡◌, ℕ, zero, suc, ◌+◌, ◌-◌, ◌<◌, ◌≤◌, cond, ◌⊎◌, List, [], ◌∷◌, length, get_or, take, drop, sym, refl, ap, ◌∙◌, subst, inl, inr, add-one, arith}
use mathlib.Core.Logic.{∥∥₁_elim}
use denote.Struct.Props.{props}
use Rattle.std.proofs.lemmas.List.{drop_more, drop_all}
use Rattle.std.proofs.lemmas.Bool.{cases_lt}
use Rattle.design.specs.declared.row.Row.{Row}
use Rattle.parts.specs.Parts.{Part, cuts, cut, holds, place_of}
use Rattle.parts.specs.Bounds.{Steps, Rising}
use Rattle.parts.proofs.Chains.{Chain}
use Rattle.parts.proofs.Holds.{holds_in, holds_past}
use Rattle.parts.proofs.Cuts.{steps_le}

-- ---- bounds that rise
steps_at : (a : ℕ) (bs : List ℕ) (e j : ℕ) → Steps a bs e → j < length bs → (get_or (a ∷ bs) j 0 < get_or bs j 0) × (get_or bs j 0 ≤ e) × (a + j ≤ get_or (a ∷ bs) j 0)
steps_at a [] e j h l = absurd (omega arith)
steps_at a (b ∷ bs) e zero h l = (h.0, steps_le b bs e h.1, omega arith)
steps_at a (b ∷ bs) e (suc j) h l = let r = steps_at b bs e j h.1 (omega arith) in (r.0, r.1, omega (arith, r.2, h.0))

steps_last : (a : ℕ) (bs : List ℕ) (e : ℕ) → Steps a bs e → get_or (a ∷ bs) (length bs) 0 ≡ e
steps_last a [] e h = h
steps_last a (b ∷ bs) e h = steps_last b bs e h.1

steps_low : (a : ℕ) (bs : List ℕ) (e j : ℕ) → Steps a bs e → j ≤ length bs → a ≤ get_or (a ∷ bs) j 0
steps_low a bs e zero h l = omega arith
steps_low a [] e (suc j) h l = absurd (omega arith)
steps_low a (b ∷ bs) e (suc j) h l = omega (arith, h.0, steps_low b bs e j h.1 (omega arith))

steps_mono : (a : ℕ) (bs : List ℕ) (e i j : ℕ) → Steps a bs e → i ≤ j → j ≤ length bs → get_or (a ∷ bs) i 0 ≤ get_or (a ∷ bs) j 0
steps_mono a bs e zero j h l m = steps_low a bs e j h m
steps_mono a bs e (suc i) zero h l m = absurd (omega arith)
steps_mono a [] e (suc i) (suc j) h l m = absurd (omega arith)
steps_mono a (b ∷ bs) e (suc i) (suc j) h l m = steps_mono b bs e i j h.1 (omega arith) (omega arith)

-- the part j is not empty and ends in the list, and does not begin before row j
pub rising_at : (bs : List ℕ) (e j : ℕ) → Rising bs e → j + 1 < length bs → (get_or bs j 0 < get_or bs (j + 1) 0) × (get_or bs (j + 1) 0 ≤ e) × (j ≤ get_or bs j 0)
rising_at [] e j h l = absurd h
rising_at (a ∷ bs) e j h l =
    let r = steps_at a bs e j h.1 (omega arith) in
    let s : get_or (a ∷ bs) (j + 1) 0 ≡ get_or bs j 0 = ap (λ i. get_or (a ∷ bs) i 0) (add-one j) in
    (omega (arith, r.0, s), omega (arith, r.1, s), omega (arith, r.2))

pub rising_last : (bs : List ℕ) (e j : ℕ) → Rising bs e → j < length bs → length bs ≤ j + 1 → get_or bs j 0 ≡ e
rising_last [] e j h l m = absurd h
rising_last (a ∷ bs) e j h l m = ap (λ i. get_or (a ∷ bs) i 0) (last j l m) ∙ steps_last a bs e h.1
  where
    last : (j : ℕ) → j < suc (length bs) → suc (length bs) ≤ j + 1 → j ≡ length bs
    last j l m = omega arith

pub rising_mono : (bs : List ℕ) (e i j : ℕ) → Rising bs e → i ≤ j → j < length bs → get_or bs i 0 ≤ get_or bs j 0
rising_mono [] e i j h l m = absurd h
rising_mono (a ∷ bs) e i j h l m = steps_mono a bs e i j h.1 l (omega arith)

pub rising_zero : (bs : List ℕ) (e : ℕ) → Rising bs e → (get_or bs 0 0 ≡ 0) × (0 < length bs)
rising_zero [] e h = absurd h
rising_zero (a ∷ bs) e h = (h.0, omega arith)

-- bounds rise in one way only, so that a struct's invariant can be taken out
steps_one : (a : ℕ) (bs : List ℕ) (e : ℕ) → IsProp (Steps a bs e)
steps_one a [] e = hlevel props
steps_one a (b ∷ bs) e = let r = steps_one b bs e in hlevel props

rising_one : (bs : List ℕ) (e : ℕ) → IsProp (Rising bs e)
rising_one [] e = hlevel props
rising_one (a ∷ bs) e = let r = steps_one a bs e in hlevel props

pub rising_known : (bs : List ℕ) (e : ℕ) → ∥ Rising bs e ∥₁ → Rising bs e
rising_known bs e h = ∥∥₁_elim h (rising_one bs e) (λ x. x)

-- ---- the part at a place
abbrev pub between : (ℕ → ℕ) → List Row → List ℕ → ℕ → Part
between sample list bs j =
    record { at = get_or bs j 0; rows = take (get_or bs (j + 1) 0 - get_or bs j 0) (drop (get_or bs j 0) list); sample = sample j }

module _ (sample : ℕ → ℕ) (list : List Row) where
  cuts-length : (i a : ℕ) (bs : List ℕ) → length (cuts sample list i a bs) ≡ length bs
  cuts-length i a [] = refl
  cuts-length i a (b ∷ bs) = ap suc (cuts-length (suc i) b bs)

  pub cut-length : (bs : List ℕ) → length (cut sample list bs) ≡ length bs - 1
  cut-length [] = refl
  cut-length (a ∷ bs) = cuts-length 0 a bs ∙ one (length bs)
    where
      one : (n : ℕ) → n ≡ suc n - 1
      one n = omega arith

  -- the parts from the place i on
  abbrev cut_from : ℕ → List ℕ → List Part
  cut_from i [] = []
  cut_from i (a ∷ bs) = cuts sample list i a bs

  drop_none : {X : Type 0} (i : ℕ) → drop i (let e : List X = [] in e) ≡ []
  drop_none zero = refl
  drop_none (suc i) = refl

  cuts-drop : (i a : ℕ) (bs : List ℕ) (j : ℕ) → drop j (cuts sample list i a bs) ≡ cut_from (i + j) (drop j (a ∷ bs))
  cuts-drop i a bs zero = ap (λ n. cuts sample list n a bs) (plus i)
    where
      plus : (i : ℕ) → i ≡ i + 0
      plus i = omega arith
  cuts-drop i a [] (suc j) = sym (ap (λ (ys : List ℕ). cut_from (i + suc j) ys) (drop_none j))
  cuts-drop i a (b ∷ bs) (suc j) = cuts-drop (suc i) b bs j ∙ ap (λ n. cut_from n (drop j (b ∷ bs))) (shift i j)
    where
      shift : (i j : ℕ) → suc i + j ≡ i + suc j
      shift i j = omega arith

  cut-drop : (bs : List ℕ) (j : ℕ) → drop j (cut sample list bs) ≡ cut_from j (drop j bs)
  cut-drop [] j = drop_none j ∙ sym (ap (λ (ys : List ℕ). cut_from j ys) (drop_none j))
  cut-drop (a ∷ bs) j = cuts-drop 0 a bs j ∙ ap (λ n. cut_from n (drop j (a ∷ bs))) (plus j)
    where
      plus : (j : ℕ) → 0 + j ≡ j
      plus j = omega arith

  pub cut_split : (bs : List ℕ) (j : ℕ) → j + 1 < length bs → drop j (cut sample list bs) ≡ between sample list bs j ∷ drop (j + 1) (cut sample list bs)
  cut_split bs j l =
      let two : drop (j + 1) bs ≡ get_or bs (j + 1) 0 ∷ drop (j + 1 + 1) bs = drop_more bs (j + 1) 0 l in
      cut-drop bs j
      ∙ ap (λ (ys : List ℕ). cut_from j ys) (drop_more bs j 0 (omega arith))
      ∙ ap (λ (ys : List ℕ). cuts sample list j (get_or bs j 0) ys) two
      ∙ ap (λ (ps : List Part). between sample list bs j ∷ ps)
      (sym (cut-drop bs (j + 1) ∙ ap (λ (ys : List ℕ). cut_from (j + 1) ys) two ∙ ap (λ n. cuts sample list n (get_or bs (j + 1) 0) (drop (j + 1 + 1) bs)) (add-one j)))

  pub cut_done : (bs : List ℕ) (j : ℕ) → length bs ≤ j + 1 → drop j (cut sample list bs) ≡ []
  cut_done bs j l = drop_all j (cut sample list bs) (omega (arith, cut-length bs))

-- the place of a unit is one of the parts
pub chain_place : (j a : ℕ) (ps : List Part) (e k : ℕ) → Chain a ps e → a ≤ k → k < e → place_of j ps k < j + length ps
chain_place j a [] e k c l h = absurd (omega (arith, c))
chain_place j a (p ∷ ps) e k c l h = by (λ x. chain_place (suc j) (a + length p.rows) ps e k c.2 x h) (cases_lt k (p.at + length p.rows))
  where
    by : (a + length p.rows ≤ k → place_of (suc j) ps k < suc j + length ps) → (k < p.at + length p.rows) ⊎ (p.at + length p.rows ≤ k)
        → cond (holds p k) j (place_of (suc j) ps k) < j + suc (length ps)
    by ih (inl x) = subst (λ b. cond b j (place_of (suc j) ps k) < j + suc (length ps)) (sym (holds_in p k (omega (arith, c.0)) x)) (omega arith)
    by ih (inr x) = subst (λ b. cond b j (place_of (suc j) ps k) < j + suc (length ps)) (sym (holds_past p k x)) (omega (arith, ih (omega (arith, c.0))))
