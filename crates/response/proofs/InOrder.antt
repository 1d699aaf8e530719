-- Shares in the order of their units.
use Rattle.std.proofs.Common.{◌≡◌, refl, ℕ, zero, suc, ◌+◌, ◌<◌, ◌≤◌, List, [], ◌∷◌, ◌++◌, map, length, get_or, sym, ap, ◌∙◌, arith}
use Rattle.std.specs.List.{range_with_len}
use Rattle.std.proofs.lemmas.List.FromFn.{get_or-map-range_with_len, length-map-range_with_len, map-range_with_len_more}
use Rattle.design.specs.Fractions.{Fraction}
use Rattle.response.specs.Runs.{in_order}

pub units_in_order : (units : ℕ) (share : ℕ → Fraction) (shares : List Fraction) → shares ≡ in_order units share → length shares ≡ units
units_in_order units share shares e = ap length e ∙ length-map-range_with_len share 0 units

pub at_order : (units : ℕ) (share : ℕ → Fraction) (shares : List Fraction) (k : ℕ) (d : Fraction) → shares ≡ in_order units share → k < units → get_or shares k d ≡ share k
at_order units share shares k d e l = ap (λ xs. get_or xs k d) e ∙ get_or-map-range_with_len share 0 units k k d l (omega arith)

-- one share more
pub one_share_more : (share : ℕ → Fraction) (k : ℕ) (now new : List Fraction) (x : Fraction) → now ≡ in_order k share → x ≡ share k → new ≡ now ++ x ∷ [] → new ≡ in_order (k + 1) share
one_share_more share k now new x so_far here is =
    is ∙ ap (λ xs. xs ++ x ∷ []) so_far ∙ ap (λ y. in_order k share ++ y ∷ []) here ∙ sym (map-range_with_len_more share 0 k k (omega arith))

-- shares that agree are the same in order
same_from : (a units : ℕ) (f g : ℕ → Fraction) → ((k : ℕ) → a ≤ k → k < a + units → f k ≡ g k) → map f (range_with_len a units) ≡ map g (range_with_len a units)
same_from a zero f g h = refl
same_from a (suc units) f g h =
    ap (λ x. x ∷ map f (range_with_len (a + 1) units)) (h a (omega arith) (omega arith))
    ∙ ap (λ xs. g a ∷ xs) (same_from (a + 1) units f g (λ k l m. h k (omega (arith, l)) (omega (arith, m))))

pub same_in_order : (units : ℕ) (f g : ℕ → Fraction) → ((k : ℕ) → k < units → f k ≡ g k) → in_order units f ≡ in_order units g
same_in_order units f g h = same_from 0 units f g (λ k l m. h k (omega (arith, m)))
