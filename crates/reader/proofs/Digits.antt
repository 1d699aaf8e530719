-- The digits of a field, one by one.
use Rattle.std.proofs.Common.{◌≡◌, ℕ, ◌+◌, ◌-◌, ◌*◌, ◌<◌, false, ◌&&◌, List, [], ◌∷◌, ◌++◌, length, get_or, take, drop, min, ◌^◌, Option, Some, None, refl, sym, ap, ◌∙◌, arith}
use Rattle.std.specs.Str.{all_ascii_digits}
use Rattle.std.specs.Char.{is_ascii_digit}
use Rattle.std.specs.Fmt.{decimal}
use Rattle.std.specs.Option.{option_map}
use Rattle.std.proofs.lemmas.Bool.{and_left, cond-false, eq-eqb}
use Rattle.std.proofs.lemmas.List.{take_more, take_rest}
use Rattle.std.proofs.lemmas.List.Recursion.{and_fails_at, and_push}
use Rattle.frame_file.specs.Fields.{amount, is_numeral, number_in, outside_below, read_on, wrong_in}
use Rattle.frame_laws.proofs.Amounts.{below_nothing}
use Rattle.frame_laws.proofs.Numbers.{number_written, written_of_number}

read_push : (n : ℕ) (f : List ℕ) (c : ℕ) → read_on n (f ++ c ∷ []) ≡ read_on n f * 10 + (c - 48)
read_push n [] c = refl
read_push n (d ∷ f) c = read_push (n * 10 + (d - 48)) f c

pub read_more : (f : List ℕ) (i : ℕ) → i < length f → read_on 0 (take (i + 1) f) ≡ read_on 0 (take i f) * 10 + (get_or f i 0 - 48)
read_more f i inside = ap (read_on 0) (take_more f i 0 inside) ∙ read_push 0 (take i f) (get_or f i 0)

pub digits_more : (f : List ℕ) (i : ℕ) → i < length f → all_ascii_digits (take (i + 1) f) ≡ (all_ascii_digits (take i f) && is_ascii_digit (get_or f i 0))
digits_more f i inside = ap all_ascii_digits (take_more f i 0 inside) ∙ and_push all_ascii_digits is_ascii_digit refl (λ _ _. refl) (take i f) (get_or f i 0)

pub no_number : (f : List ℕ) (i : ℕ) → i < length f → is_ascii_digit (get_or f i 0) ≡ false → number_in f ≡ None
no_number f i inside other =
    cond-false (is_numeral f) _ None (and_left (all_ascii_digits f) _ (and_fails_at all_ascii_digits is_ascii_digit refl (λ _ _. refl) f i 0 inside other))

-- a number below the cap is what the field writes
pub below_cap : (f : List ℕ) (n : ℕ) → Some n ≡ option_map (λ k. min k (2 ^ 64 - 1)) (number_in f) → n < 2 ^ 64 - 1 → f ≡ decimal n
below_cap f n e small = by (number_in f) refl e
  where
    by : (o : Option ℕ) → number_in f ≡ o → Some n ≡ option_map (λ k. min k (2 ^ 64 - 1)) o → f ≡ decimal n
    by None none e = absurd (let z : ◌≡◌ {A = Option ℕ} (Some n) None = e in cc)
    by (Some k) is e =
        let same : n ≡ min k (2 ^ 64 - 1) = cc in
        written_of_number f n (omega arith) (is ∙ ap Some (omega arith))

-- after a minus 0 is no number
pub minus_zero : (f : List ℕ) (n : ℕ) → get_or f 0 0 ≡ 45 → take (length f - 1) (drop 1 f) ≡ decimal n → n ≡ 0 → wrong_in (amount 1000000) f ≡ Some 30
minus_zero f n minus is none =
    below_nothing 1000000 f (eq-eqb _ 45 minus) ∙ ap (outside_below 1000000) (ap number_in (sym (take_rest f 1) ∙ is ∙ ap decimal none) ∙ number_written 0 (omega arith))
