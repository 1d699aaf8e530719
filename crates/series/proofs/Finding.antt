-- The part of a row, found in order.
use Rattle.std.proofs.Common.{◌≡◌, ℕ, zero, suc, ◌-◌, ◌<◌, ◌≤◌, ◌⊎◌, ltb, Bool, not, List, length, get_or, take, drop, inl, inr, sym, ◌∙◌, subst, ap, arith}
use Rattle.std.specs.Prelude.{unwrap_or}
use Rattle.std.specs.List.{position, position_or_len}
use Rattle.std.proofs.lemmas.Grind.{common_steps, get_or_after_one}
use Rattle.std.proofs.lemmas.List.{get_or-take}
use Rattle.std.proofs.lemmas.List.Sums.{fails_before_first, passes_at_first, prefix_len-le-length}
use Rattle.std.proofs.lemmas.Bool.{cases_lt, ltb-true, ltb-false}
use Rattle.parts.specs.Bounds.{Rising}
use Rattle.parts.specs.Seats.{Seated}
use Rattle.parts.proofs.Places.{rising_last, rising_zero}
use Rattle.parts.proofs.Seats.{seat_found}

-- the bounds between the first and the last: the first rows of the parts after the first one
abbrev pub later : List ℕ → List ℕ
later bs = take (length bs - 1 - 1) (drop 1 bs)

later_many : (bs : List ℕ) → length (later bs) ≡ length bs - 1 - 1
later_many bs = grind (arith, common_steps)

later_at : (bs : List ℕ) (i : ℕ) → i < length (later bs) → get_or (later bs) i 0 ≡ get_or bs (suc i) 0
later_at bs i l = get_or-take (length bs - 1 - 1) (drop 1 bs) i 0 (omega (arith, later_many bs)) ∙ get_or_after_one bs i 0 ∙ ap (λ n. get_or bs n 0) (omega arith)

most_or_len : (p : ℕ → Bool) (xs : List ℕ) → position_or_len p xs ≤ length xs
most_or_len p xs = prefix_len-le-length (λ x. not (p x)) xs

-- where a search finds nothing, it goes to the end
found_or_len : (p : ℕ → Bool) (xs : List ℕ) → unwrap_or (position p xs) (length xs) ≡ position_or_len p xs
found_or_len p xs = grind (arith, common_steps, most_or_len p xs)

-- the part before the first later one that starts past the row k, or the last part where none does
pub found_in_order : (bs : List ℕ) (e k : ℕ) → Rising bs e → k < e → 2 ≤ length bs → Seated bs k (unwrap_or (position (λ b. ltb k b) (later bs)) (length (later bs)))
found_in_order bs e k rise l many =
    subst (Seated bs k) (same ∙ sym (found_or_len past (later bs)))
    (seat_found bs e k (suc i) rise l low (λ m. high m (cases_lt i (length (later bs)))) (omega (arith, later_many bs, most_or_len past (later bs))))
  where
    past : ℕ → Bool
    past b = ltb k b

    i : ℕ
    i = position_or_len past (later bs)

    same : suc i - 1 ≡ i
    same = omega arith

    low : (j : ℕ) → j < suc i → get_or bs j 0 ≤ k
    low zero m = omega (arith, (rising_zero bs e rise).0)
    low (suc j) m = omega (arith, later_at bs j (omega (arith, most_or_len past (later bs))), ltb-false k _ (fails_before_first past (later bs) j 0 (omega arith)))

    high : suc i < length bs → (i < length (later bs)) ⊎ (length (later bs) ≤ i) → k < get_or bs (suc i) 0
    high m (inl n) = omega (arith, later_at bs i n, ltb-true k _ (passes_at_first past (later bs) 0 n))
    high m (inr n) = omega (arith, later_many bs, rising_last bs e (suc i) rise m (omega (arith, later_many bs)))
