-- The parts of a list by their places, and the part of a unit.
use Rattle.std.proofs.Common.{◌≡◌, ℕ, zero, suc, ◌+◌, ◌-◌, ◌<◌, ◌≤◌, true, cond, ◌⊎◌, List, ◌∷◌, length, get_or, drop, sym, ap, ◌∙◌, ap₂, subst, inl, inr, add-one, arith, leb, le-leb}
use Rattle.std.proofs.lemmas.Bool.{cases_lt, leb-true}
use Rattle.std.proofs.lemmas.List.{get_or_default}
use Rattle.parts.specs.Parts.{Part, holds, place_of}
use Rattle.parts.specs.Series.{per_unit}
use Rattle.parts.specs.Bounds.{Rising}
use Rattle.parts.proofs.Chains.{Chain, Apart}
use Rattle.parts.specs.Seats.{Seated}
use Rattle.parts.specs.Running.{Tables, sample_of, all_parts, first_row_of, part_at}
use Rattle.parts.proofs.Holds.{holds_in}
use Rattle.parts.proofs.Cuts.{part_length, chain_cut, chain_apart}
use Rattle.parts.proofs.Places.{rising_at, rising_last, rising_mono, rising_zero, cut_split}
use Rattle.parts.proofs.Splits.{apart_split, units_split}

-- the row k lies in the part of the last bound that is at most k, where j bounds are, and the others are larger
pub seat_found : (bs : List ℕ) (e k j : ℕ) → Rising bs e → k < e → ((i : ℕ) → i < j → get_or bs i 0 ≤ k) → (j < length bs → k < get_or bs j 0) → j ≤ length bs
    → Seated bs k (j - 1)
seat_found bs e k zero rise l low high most = absurd (omega (arith, rising_zero bs e rise, high (rising_zero bs e rise).1))
seat_found bs e k (suc i) rise l low high most = by (cases_lt (suc i) (length bs))
  where
    same : suc i - 1 ≡ i
    same = omega arith

    by : (suc i < length bs) ⊎ (length bs ≤ suc i) → Seated bs k (suc i - 1)
    by (inl m) = rw same (record { place = omega arith; low = low i (omega arith); high = subst (λ n. k < get_or bs n 0) (sym (add-one i)) (high m) })
    by (inr m) = absurd (omega (arith, rising_last bs e i rise (omega arith) (omega arith), low i (omega arith)))

-- the bounds that are at most k come before the others
pub bounds_parted : (bs : List ℕ) (e k i j d : ℕ) → Rising bs e → i ≤ j → j < length bs → leb (get_or bs j d) k ≡ true → leb (get_or bs i d) k ≡ true
bounds_parted bs e k i j d rise l m t =
    le-leb (get_or bs i d) k
    (omega (
      arith,
      leb-true (get_or bs j d) k t,
      get_or_default bs i d 0 (omega arith),
      get_or_default bs j d 0 m,
      rising_mono bs e i j rise l m,
    ))

module _ (v : Tables) (rise : Rising v.bounds (length v.rows)) where
  pub chain : Chain 0 (all_parts v) (length v.rows)
  chain = chain_cut (sample_of v) v.rows v.bounds rise

  pub apart : Apart 0 (all_parts v) (length v.rows)
  apart = chain_apart 0 (all_parts v) (length v.rows) chain

  pub split : (j : ℕ) → j + 1 < length v.bounds → drop j (all_parts v) ≡ part_at v j ∷ drop (j + 1) (all_parts v)
  split j more = cut_split (sample_of v) v.rows v.bounds j more

  pub bounded : (j : ℕ) → j + 1 < length v.bounds → (first_row_of v j < first_row_of v (j + 1)) × (first_row_of v (j + 1) ≤ length v.rows) × (j ≤ first_row_of v j)
  bounded j more = rising_at v.bounds (length v.rows) j rise more

  pub rows_of : (j : ℕ) → j + 1 < length v.bounds → length (part_at v j).rows ≡ first_row_of v (j + 1) - first_row_of v j
  rows_of j more = let r = bounded j more in part_length v.rows (first_row_of v j) (first_row_of v (j + 1)) (omega (arith, r.0)) r.1

  pub end_of : (j : ℕ) → j + 1 < length v.bounds → first_row_of v j + length (part_at v j).rows ≡ first_row_of v (j + 1)
  end_of j more = let r = bounded j more in omega (arith, rows_of j more, r.0)

  pub apart_after : (j : ℕ) → j + 1 < length v.bounds → Apart (first_row_of v j + length (part_at v j).rows) (drop (j + 1) (all_parts v)) (length v.rows)
  apart_after j more = (apart_split (all_parts v) j 0 (length v.rows) (part_at v j) (drop (j + 1) (all_parts v)) apart (split j more)).1

  -- a unit from part i on has its numbers and its place among the parts from there on
  pub from_on : (f : Part → ℕ → ℕ) (i k : ℕ) → i + 1 < length v.bounds → first_row_of v i ≤ k
      → (per_unit f (all_parts v) k ≡ per_unit f (drop i (all_parts v)) k) × (place_of 0 (all_parts v) k ≡ place_of i (drop i (all_parts v)) k)
  from_on f i k more l =
      let u = units_split f (all_parts v) i 0 0 (length v.rows) k (part_at v i) (drop (i + 1) (all_parts v)) apart (split i more) l in (
        u.0 ∙ ap (λ (ps : List Part). per_unit f ps k) (sym (split i more)),
        u.1 ∙ ap₂ (λ (m : ℕ) (ps : List Part). place_of m ps k) (plus i) (sym (split i more)),
      )
    where
      plus : (i : ℕ) → 0 + i ≡ i
      plus i = omega arith

  -- ---- the part of a unit
  module _ (k j : ℕ) (s : Seated v.bounds k j) where
    held : holds (part_at v j) k ≡ true
    held = holds_in (part_at v j) k s.low (omega (arith, end_of j s.place, s.high))

    pub seat_place : place_of 0 (all_parts v) k ≡ j
    seat_place =
        (from_on (λ p i. 0) j k s.place s.low).1 ∙ ap (λ (ps : List Part). place_of j ps k) (split j s.place)
        ∙ ap (λ b. cond b j (place_of (suc j) (drop (j + 1) (all_parts v)) k)) held

    pub seat_unit : (f : Part → ℕ → ℕ) → per_unit f (all_parts v) k ≡ f (part_at v j) (k - first_row_of v j)
    seat_unit f =
        (from_on f j k s.place s.low).0 ∙ ap (λ (ps : List Part). per_unit f ps k) (split j s.place)
        ∙ ap (λ b. cond b (f (part_at v j) (k - first_row_of v j)) (per_unit f (drop (j + 1) (all_parts v)) k)) held

    pub seat_row : k < length v.rows
    seat_row = let r = bounded j s.place in omega (arith, r.1, s.high)
