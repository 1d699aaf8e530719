-- The search for a take of 0.
use Rattle.std.proofs.Common.{◌≡◌, ℕ, Bool, true, false, eqb, List, length, is_some, Some, None, Option, refl, ap, arith}
use Rattle.std.specs.List.{IsAnyAnswer}
use Rattle.std.proofs.lemmas.Bool.{both_ways}
use Rattle.design.specs.Lists.{first}
use Rattle.design.proofs.Firsts.{first_none, none_first}
use Rattle.layers.specs.Stratified.{take_of}

-- b says whether one of the takes is 0
pub zero_found : (takes : List ℕ) (b : Bool) → IsAnyAnswer (λ y t. eqb y 0 ≡ t) takes b → is_some (first (length takes) (λ j. eqb (take_of takes j) 0)) ≡ b
zero_found takes true (k, l, h) = by (first (length takes) (λ j. eqb (take_of takes j) 0)) refl
  where
    by : (o : Option ℕ) → first (length takes) (λ j. eqb (take_of takes j) 0) ≡ o → is_some o ≡ true
    by (Some i) e = refl
    by None e = absurd (both_ways (eqb (take_of takes k) 0) (first_none (length takes) (λ j. eqb (take_of takes j) 0) e k l) (h 0))
zero_found takes false h = ap is_some (none_first (length takes) (λ j. eqb (take_of takes j) 0) (λ k l. h k 0 (omega arith) l))
