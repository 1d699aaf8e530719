-- An amount of money as it is written has nothing wrong, and is read by its minus.
use Rattle.std.proofs.Common.{◌≡◌, ℕ, suc, ◌<◌, ◌≤◌, ◌^◌, ℤ, pos, negsuc, ◌≤ℤ◌, true, false, List, drop, Some, None, ap, ◌∙◌, arith}
use Rattle.std.specs.Fmt.{decimal, signed_decimal}
use Rattle.std.proofs.lemmas.Bool.{cond-true, cond-false, ne_eqb}
use Rattle.std.proofs.lemmas.Bool.Decides.{nat_tests}
use Rattle.std.proofs.lemmas.Fmt.{decimal_nonempty, digits_decimal}
use Rattle.std.proofs.lemmas.Int.{ints}
use Rattle.std.proofs.lemmas.Str.Parse.{not_in_digits}
use Rattle.frame_file.specs.Fields.{amount, has_minus, number_in, outside, outside_below, wrong_in}
use Rattle.frame_laws.proofs.Numbers.{number_written, numerals}

-- ---- by the minus
pub below_nothing : (high : ℕ) (f : List ℕ) → has_minus f ≡ true → wrong_in (amount high) f ≡ outside_below high (number_in (drop 1 f))
below_nothing high f e = cond-true (has_minus f) _ _ e

pub not_below : (high : ℕ) (f : List ℕ) → has_minus f ≡ false → wrong_in (amount high) f ≡ outside 0 high (number_in f)
not_below high f e = cond-false (has_minus f) _ _ e

-- ---- in range
outside_none : (low high n : ℕ) → low ≤ n → n ≤ high → outside low high (Some n) ≡ None
outside_none low high n l h = grind (arith, nat_tests)

pub number_in_range : (low high n : ℕ) → low ≤ n → n ≤ high → n < 2 ^ 64 → outside low high (number_in (decimal n)) ≡ None
number_in_range low high n l h small = ap (outside low high) (number_written n small) ∙ outside_none low high n l h

no_minus : (n : ℕ) → n < 2 ^ 64 → has_minus (decimal n) ≡ false
no_minus n small = ne_eqb _ 45 (not_in_digits numerals (decimal n) 45 (digits_decimal numerals n small) (λ q. omega (arith, q)) 0 (decimal_nonempty n small))

pub amount_in_range : (z : ℤ) → negsuc 999999 ≤ℤ z → z ≤ℤ pos 1000000 → wrong_in (amount 1000000) (signed_decimal z) ≡ None
amount_in_range (pos n) low high =
    let few : n ≤ 1000000 = omega (arith, ints) in
    not_below 1000000 (decimal n) (no_minus n (omega arith)) ∙ number_in_range 0 1000000 n (omega arith) few (omega arith)
amount_in_range (negsuc n) low high =
    let few : n ≤ 999999 = omega (arith, ints) in
    ap (outside_below 1000000) (number_written (suc n) (omega arith)) ∙ grind (arith, nat_tests)
