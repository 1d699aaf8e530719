-- A field is a number exactly if it is written as that number is.
use Rattle.std.proofs.Common.{◌≡◌, ℕ, ◌<◌, ◌≤◌, ◌^◌, Bool, true, false, cond, ◌||◌, eqb, ltb, List, length, get_or, Some, None, refl, sym, ap, ◌∙◌, inl, inr, ◌⊎◌, arith, rules}
use Rattle.std.specs.Fmt.{decimal}
use Rattle.std.specs.Str.{all_ascii_digits}
use Rattle.std.proofs.lemmas.Bool.{and_parts, and_from, or_right, lt-ltb, cases_lt, cond-true}
use Rattle.std.proofs.lemmas.Bool.Decides.{nat_tests}
use Rattle.std.proofs.lemmas.Fmt.{decimal-digits_value, decimal_digit, digits_decimal, digits_value-decimal, first_decimal}
use Rattle.std.proofs.lemmas.List.{get_or_past}
use Rattle.std.proofs.lemmas.Str.Parse.{IsNumeralModel, numerals_by_fold}
use Rattle.frame_file.specs.Fields.{read_on, is_numeral, number_in}
use Rattle.frame_laws.specs.Laws.{NumbersAsWritten}

-- digits, read from the left, are numerals
pub numerals : IsNumeralModel (λ f. all_ascii_digits f ≡ true) (read_on 0)
numerals = numerals_by_fold _ (search rules) read_on (search rules)

-- digits of which the first is not 0 are what is written of their number
numeral_is_written : (f : List ℕ) → is_numeral f ≡ true → read_on 0 f < 2 ^ 64 → f ≡ decimal (read_on 0 f)
numeral_is_written f is small =
    let parts = and_parts (all_ascii_digits f) _ is in
    sym (decimal-digits_value numerals f parts.0 (grind (arith, nat_tests, parts.1, get_or_past f 0 0)) (λ e. grind (arith, nat_tests, parts.1)) small)

written_is_numeral : (n : ℕ) → n < 2 ^ 64 → is_numeral (decimal n) ≡ true
written_is_numeral n small = and_from (all_ascii_digits (decimal n)) _ (digits_decimal numerals n small) (well_begun (cases_lt n 10))
  where
    well_begun : (n < 10) ⊎ (10 ≤ n) → (eqb (length (decimal n)) 1 || ltb 48 (get_or (decimal n) 0 0)) ≡ true
    well_begun (inl one) = ap (λ f. eqb (length f) 1 || ltb 48 (get_or f 0 0)) (decimal_digit n one)
    well_begun (inr more) = or_right (eqb (length (decimal n)) 1) _ (lt-ltb 48 _ (first_decimal n (omega arith) small))

pub number_written : (n : ℕ) → n < 2 ^ 64 → number_in (decimal n) ≡ Some n
number_written n small = cond-true (is_numeral (decimal n)) _ None (written_is_numeral n small) ∙ ap Some (digits_value-decimal numerals n small)

-- what a field that is a number says of it
number_is_numeral : (f : List ℕ) (n : ℕ) → number_in f ≡ Some n → (is_numeral f ≡ true) × (read_on 0 f ≡ n)
number_is_numeral f n e = by (is_numeral f) refl e
  where
    by : (b : Bool) → is_numeral f ≡ b → cond b (Some (read_on 0 f)) None ≡ Some n → (is_numeral f ≡ true) × (read_on 0 f ≡ n)
    by true is same = (is, cc)
    by false is none = cc

pub written_of_number : (f : List ℕ) (n : ℕ) → n < 2 ^ 64 → number_in f ≡ Some n → f ≡ decimal n
written_of_number f n small e =
    let is = number_is_numeral f n e in
    numeral_is_written f is.0 (omega (arith, is.1)) ∙ ap decimal is.1

pub numbers_as_written : NumbersAsWritten
numbers_as_written f n small = (written_of_number f n small, λ same. ap number_in same ∙ number_written n small)
