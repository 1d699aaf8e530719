-- The products of denominators, as a search over the units finds them.
use Rattle.std.proofs.Common.{◌≡◌, ℕ, ◌*◌, ◌^◌, ◌<◌, ◌≤◌, Bool, true, false, ltb, length, MatchOption, Some, None, Option, sym, ap, ◌∙◌, ap₂, arith}
use Rattle.design.specs.Lists.{first}
use Rattle.design.specs.Fractions.{Fraction}
use Rattle.design.proofs.Firsts.{first_here, none_first}
use Rattle.design.specs.Design.{Standing}
use Rattle.parts.specs.Seats.{Seated}
use Rattle.parts.specs.Running.{all_parts, share_at}
use Rattle.parts.proofs.Seats.{seat_place}
use Rattle.layers.specs.Stages.{units_of, denominator_at}
use Rattle.series.specs.Tables.{tables}
use Rattle.series.specs.declared.table.PartTable.{PartTable}
use Rattle.two_stage.specs.Of.{large_product}
use Rattle.series.proofs.Tabled.{rising, counted}

-- the test at the unit k, whose cluster is j
pub test_is : (t : PartTable) (st : Standing) (k j a : ℕ) (s : Fraction) (x : Bool) → units_of st ≡ length (all_parts (tables t)) → Seated (tables t).bounds k j
    → (j < units_of st → a ≡ denominator_at st j) → s ≡ share_at (tables t) k → x ≡ ltb (10 ^ 15) (a * s.1) → large_product st (tables t) k ≡ x
test_is t st k j a s x u seat den is e =
    let inside : j < units_of st = omega (arith, seat.place, u, counted t, t.chosen_all) in
    sym (e ∙ ap₂ (λ (c d : ℕ). ltb (10 ^ 15) (c * d)) (den inside ∙ ap (denominator_at st) (sym (seat_place (tables t) (rising t) k j seat))) (ap (λ (f : Fraction). f.1) is))

-- what the search for such a product finds, among the units up to m
pub large_found : (n m : ℕ) (p : ℕ → Bool) (o : Option ℕ) → m ≡ n
    → MatchOption o ((k : ℕ) → 0 ≤ k → k < m → k < n → p k ≡ false) (λ i. (0 ≤ i) × (i < m) × (i < n → p i ≡ true) × ((k : ℕ) → 0 ≤ k → k < i → k < n → p k ≡ false)) → o ≡ first n p
large_found n m p None e h = sym (none_first n p (λ k l. h k (omega arith) (omega (arith, e)) l))
large_found n m p (Some i) e h =
    let l : i < n = omega (arith, h.1, e) in
    sym (first_here n i p (none_first i p (λ k j. h.3 k (omega arith) j (omega arith))) (h.2 l) l)
