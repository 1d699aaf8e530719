-- The loop of a systematic throw over what the units hold.
use Rattle.std.proofs.Common.{◌≡◌, ℕ, ◌+◌, ◌-◌, ◌*◌, ◌<◌, ◌≤◌, Bool, true, false, cond, ltb, ◌≢◌, ◌⊎◌, List, length, get_or, set, sym, refl, ap, ◌∙◌, subst, inl, inr, add-one, arith, length-set, get_or-set_other, get_or-set_same}
use native.Mathlib.Decide.{ℕ_discrete}
use Rattle.std.proofs.lemmas.Bool.{ltb-true, ltb-false, lt-ltb, le-ltb}
use Rattle.outcomes.specs.Sums.{sum}
use Rattle.outcomes.specs.Counting.{Among}
use Rattle.outcomes.proofs.Counting.{same_rest}
use Rattle.methods.specs.Systematic.{among, numbers_from, struck}
use Rattle.methods.specs.Holdings.{Within}
use Rattle.methods.proofs.Systematics.{among_is}
use Rattle.methods.proofs.Holdings.{no_way}

-- the unit with `goal` numbers from `low` is taken just if the first point not below `low` is among them
point_tells : (all low goal r point j : ℕ) → 0 < all → goal ≤ all → point ≡ r + j * all → low ≤ point → point < low + all → among all low goal r ≡ ltb point (low + goal)
point_tells all low goal r point j some fits e from near = by (ltb point (low + goal)) refl (among all low goal r) refl
  where
    by : (t : Bool) → ltb point (low + goal) ≡ t → (u : Bool) → among all low goal r ≡ u → u ≡ t
    by true f true g = refl
    by false f false g = refl
    by true f false g = no_way (sym ((among_is all low goal r some).1 (j, omega arith, omega (arith, ltb-true point (low + goal) f))) ∙ g)
    by false f true g =
        let t : Among all low goal r = (among_is all low goal r some).0 g in
        let x : ℕ = r + t.0 * all - low in
        let y : ℕ = point - low in
        let same : x ≡ y = same_rest all r x y t.0 j low (omega (arith, t.1, t.2)) (omega arith) (omega (arith, t.1)) (omega arith) in
        absurd (omega (arith, ltb-false point (low + goal) f, t.1, t.2))

-- After i units: what they are left with, that the others hold their goals still, the sum of the goals so far, and the first
-- point that is not below it.
pub record Striking (all : ℕ) (goals : List ℕ) (r i low point : ℕ) (items : List ℕ) : Type 0 where
  pub long : length items ≡ length goals
  pub done : (k : ℕ) → k < i → get_or items k 0 ≡ cond (struck all goals r k) all 0
  pub left : (k : ℕ) → i ≤ k → get_or items k 0 ≡ get_or goals k 0
  pub low_is : low ≡ numbers_from goals i
  pub point_is : (j : ℕ) × (point ≡ r + j * all)
  pub from : low ≤ point
  pub near : point < low + all
  pub small : low ≤ i * all

-- what the unit is left with, and the point after it
abbrev Left : ℕ → ℕ → ℕ → ℕ → ℕ → Type 0
Left all high point x point' = ((point < high) × (x ≡ all) × (point' ≡ point + all)) ⊎ ((high ≤ point) × (x ≡ 0) × (point' ≡ point))

unit_more : (all : ℕ) (goals : List ℕ) (r i low point : ℕ) (items : List ℕ) (x point' : ℕ) → 0 < all → Within all goals → i < length goals
    → Striking all goals r i low point items → Left all (low + get_or items i 0) point x point'
    → Striking all goals r (i + 1) (low + get_or items i 0) point' (set items i x)
unit_more all goals r i low point items x point' some within l s left = record {
  long = length-set items i x ∙ s.long;
  done = λ k lk. elim (ℕ_discrete k i) [
    | yes e ↦ ap (λ n. get_or (set items i x) n 0) e ∙ get_or-set_same items i x 0 (omega (arith, s.long)) ∙ here left ∙ ap (λ n. cond (struck all goals r n) all 0) (sym e)
    | no ne ↦ get_or-set_other items i k x 0 ne ∙ s.done k (omega arith)
  ];
  left = λ k lk. let ne : k ≢ i = omega arith in get_or-set_other items i k x 0 ne ∙ s.left k (omega arith);
  low_is = ap (λ z. z + get_or items i 0) s.low_is ∙ ap (λ z. numbers_from goals i + z) goal ∙ sym (ap (λ n. sum n (λ k. get_or goals k 0)) (add-one i));
  point_is = elim left [
    | inl h ↦ (s.point_is.0 + 1, omega (arith, h.2, s.point_is.1))
    | inr h ↦ (s.point_is.0, h.2 ∙ s.point_is.1)
  ];
  from = elim left [ inl h ↦ omega (arith, h.0, h.2, fits, s.from) | inr h ↦ omega (arith, h.0, h.2) ];
  near = elim left [ inl h ↦ omega (arith, h.0, h.2, s.near) | inr h ↦ omega (arith, h.0, h.2, s.near) ];
  small = omega (arith, s.small, fits);
}
  where
    goal : get_or items i 0 ≡ get_or goals i 0
    goal = s.left i (omega arith)

    fits : get_or items i 0 ≤ all
    fits = subst (λ z. z ≤ all) (sym goal) (within i l)

    tells : struck all goals r i ≡ ltb point (low + get_or items i 0)
    tells =
        ap (λ z. among all (numbers_from goals i) z r) (sym goal) ∙ ap (λ z. among all z (get_or items i 0) r) (sym s.low_is)
        ∙ point_tells all low (get_or items i 0) r point s.point_is.0 some fits s.point_is.1 s.from s.near

    here : Left all (low + get_or items i 0) point x point' → x ≡ cond (struck all goals r i) all 0
    here (inl h) = h.1 ∙ sym (ap (λ t. cond t all 0) (tells ∙ lt-ltb point (low + get_or items i 0) h.0))
    here (inr h) = h.1 ∙ sym (ap (λ t. cond t all 0) (tells ∙ le-ltb point (low + get_or items i 0) h.0))

pub striking_more : (all : ℕ) (goals : List ℕ) (r i low point : ℕ) (items items' : List ℕ) (point' : ℕ) → 0 < all → Within all goals → i < length goals
    → Striking all goals r i low point items
    → ((point < low + get_or items i 0) × (items' ≡ set items i all) × (point' ≡ point + all))
    ⊎ ((low + get_or items i 0 ≤ point) × (items' ≡ set items i 0) × (point' ≡ point))
    → Striking all goals r (i + 1) (low + get_or items i 0) point' items'
striking_more all goals r i low point items items' point' some within l s (inl h) =
    subst (λ xs. Striking all goals r (i + 1) (low + get_or items i 0) point' xs) (sym h.1)
    (unit_more all goals r i low point items all point' some within l s (inl (h.0, refl, h.2)))
striking_more all goals r i low point items items' point' some within l s (inr h) =
    subst (λ xs. Striking all goals r (i + 1) (low + get_or items i 0) point' xs) (sym h.1)
    (unit_more all goals r i low point items 0 point' some within l s (inr (h.0, refl, h.2)))
