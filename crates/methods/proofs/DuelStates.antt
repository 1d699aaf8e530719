-- What a duel leaves, and that the facts of a pivotal run's state are kept by it and by calls without a duel.
use Rattle.std.proofs.Common.{◌≡◌, ℕ, ◌+◌, ◌-◌, ◌%◌, ◌<◌, ◌≤◌, Bool, true, false, cond, ltb, ◌≢◌, ◌⊎◌, List, length, get_or, drop, Some, None, Option, sym, refl, ap, ◌∙◌, subst, inl, inr, arith}
use native.Mathlib.Decide.{ℕ_discrete}
use native.Mathlib.Nat.{add-mod_right}
use Rattle.std.proofs.lemmas.Bool.{ltb-true, ltb-false, eq-eqb, eqb-true, and_parts}
use Rattle.std.proofs.lemmas.List.{drop_more}
use Rattle.methods.specs.PivotalRuns.{pending_after, called_after, short, keeper, is_pending, PendingShort, amount, add_up, Even, Held}
use Rattle.methods.proofs.Holdings.{no_way}
use Rattle.methods.proofs.Duels.{Duel, short_true, short_none, short_all, keeps_i, keeps_j, after, after_long, after_i, after_j, after_k, after_rest}

-- ---- what a duel leaves
unfoldable pub left : ℕ → ℕ → ℕ → ℕ
left all x y = cond (short all x) x (cond (short all y) y 0)

pub record Outcome (all a b x y : ℕ) : Type 0 where
  pub x_most : x ≤ all
  pub y_most : y ≤ all
  pub one_short : short all x ≡ true → short all y ≡ false
  pub rest : (left all x y ≡ a + b) ⊎ (left all x y + all ≡ a + b)

pub outcome : (all : ℕ) (holds : List ℕ) (i j d : ℕ) → Duel all holds i j
    → Outcome all (get_or holds i 0) (get_or holds j 0) (pending_after all (get_or holds i 0) (get_or holds j 0) d) (called_after all (get_or holds i 0) (get_or holds j 0) d)
unfolding left
outcome all holds i j d h = pick (ltb (get_or holds i 0 + get_or holds j 0) all) refl
  where
    low : (t : Bool) → get_or holds i 0 + get_or holds j 0 < all → Outcome all (get_or holds i 0) (get_or holds j 0) (cond t (get_or holds i 0 + get_or holds j 0) 0) (cond t 0 (get_or holds i 0 + get_or holds j 0))
    low true l =
        let s : ℕ = get_or holds i 0 + get_or holds j 0 in
        let e : short all s ≡ true = short_true all s (omega (arith, h.a_some)) l in
        record { x_most = omega arith; y_most = omega arith; one_short = λ _. short_none all; rest = inl (ap (λ t. cond t s (cond (short all 0) 0 0)) e) }
    low false l =
        let s : ℕ = get_or holds i 0 + get_or holds j 0 in
        let e : short all s ≡ true = short_true all s (omega (arith, h.a_some)) l in
        let z : short all 0 ≡ false = short_none all in
        record {
          x_most = omega arith;
          y_most = omega arith;
          one_short = λ f. absurd (let q : true ≡ false = sym f ∙ z in let w : ◌≡◌ {A = ℕ} 0 1 = cc in omega arith);
          rest = inl (ap (λ t. cond t 0 (cond (short all s) s 0)) z ∙ ap (λ t. cond t s 0) e);
        }

    part : (r : ℕ) → r < all → cond (short all r) r 0 ≡ r
    part r l = elim (ℕ_discrete r 0) [
      | yes e ↦ ap (λ x. cond (short all x) x 0) e ∙ ap (λ t. cond t 0 0) (short_none all) ∙ sym e
      | no e ↦ ap (λ t. cond t r 0) (short_true all r (omega arith) l)
    ]

    high : (t : Bool) → all ≤ get_or holds i 0 + get_or holds j 0 → Outcome all (get_or holds i 0) (get_or holds j 0) (cond t all (get_or holds i 0 + get_or holds j 0 - all)) (cond t (get_or holds i 0 + get_or holds j 0 - all) all)
    high true l =
        let r : ℕ = get_or holds i 0 + get_or holds j 0 - all in
        let lr : r < all = omega (arith, h.a_short, h.b_short) in
        let z : short all all ≡ false = short_all all (omega arith) in
        let e : cond (short all all) all (cond (short all r) r 0) ≡ r = ap (λ t. cond t all (cond (short all r) r 0)) z ∙ part r lr in
        record {
          x_most = omega arith;
          y_most = omega arith;
          one_short = λ f. absurd (let q : true ≡ false = sym f ∙ z in let w : ◌≡◌ {A = ℕ} 0 1 = cc in omega arith);
          rest = inr (ap (λ x. x + all) e ∙ omega arith);
        }
    high false l =
        let r : ℕ = get_or holds i 0 + get_or holds j 0 - all in
        let lr : r < all = omega (arith, h.a_short, h.b_short) in
        let z : short all all ≡ false = short_all all (omega arith) in
        let e : cond (short all r) r (cond (short all all) all 0) ≡ r = ap (λ t. cond (short all r) r (cond t all 0)) z ∙ part r lr in
        record {
          x_most = omega arith;
          y_most = omega arith;
          one_short = λ f. z;
          rest = inr (ap (λ x. x + all) e ∙ omega arith);
        }

    pick : (t : Bool) → ltb (get_or holds i 0 + get_or holds j 0) all ≡ t
        → Outcome all (get_or holds i 0) (get_or holds j 0)
        (cond t (cond (ltb d (get_or holds i 0)) (get_or holds i 0 + get_or holds j 0) 0) (cond (ltb d (all - get_or holds j 0)) all (get_or holds i 0 + get_or holds j 0 - all)))
        (cond t (cond (ltb d (get_or holds i 0)) 0 (get_or holds i 0 + get_or holds j 0)) (cond (ltb d (all - get_or holds j 0)) (get_or holds i 0 + get_or holds j 0 - all) all))
    pick true e = low (ltb d (get_or holds i 0)) (ltb-true (get_or holds i 0 + get_or holds j 0) all e)
    pick false e = high (ltb d (all - get_or holds j 0)) (ltb-false (get_or holds i 0 + get_or holds j 0) all e)

-- ---- the fact of the state is kept
same_rest : (x y all : ℕ) → x + all ≡ y → y % all ≡ 0 → x % all ≡ 0
same_rest x y all e h = sym (add-mod_right x all) ∙ ap (λ z. z % all) e ∙ h

pub held_full : (all : ℕ) (holds : List ℕ) (j : ℕ) (pend : Option ℕ) → Held all holds j pend → j < length holds → get_or holds j 0 ≡ all → Held all holds (j + 1) pend
held_full all holds j pend h l e = (
  h.0,
  h.1,
  omega arith,
  h.3,
  (
    (λ k lk s. elim (ℕ_discrete k j) [
      | yes same ↦ no_way (sym s ∙ ap (λ x. short all x) (ap (λ n. get_or holds n 0) same ∙ e) ∙ short_all all h.0)
      | no other ↦ h.4.0 k (omega arith) s
    ]),
    later pend h.4.1,
    (λ k lk m. h.4.2 k (omega arith) m),
    same_rest (amount holds pend + add_up (drop (j + 1) holds)) (amount holds pend + add_up (drop j holds)) all
        (omega (arith, ap add_up (drop_more holds j 0 l), e)) h.4.3,
  ),
)
  where
    later : (pend : Option ℕ) → PendingShort all holds j pend → PendingShort all holds (j + 1) pend
    later None p = tt
    later (Some i) p = (omega (arith, p.0), p.1, p.2)

pub held_first_call : (all : ℕ) (holds : List ℕ) (j : ℕ) → Held all holds j None → j < length holds → get_or holds j 0 ≢ all → Held all holds (j + 1) (Some j)
held_first_call all holds j h l ne = (
  h.0,
  h.1,
  omega arith,
  h.3,
  (
    (λ k lk s. elim (ℕ_discrete k j) [
      | yes same ↦ eq-eqb j k (sym same)
      | no other ↦ no_way (sym (h.4.0 k (omega arith) s))
    ]),
    (omega arith, h.4.2 j (omega arith) l, omega (arith, h.3 j l, ne)),
    (λ k lk m. h.4.2 k (omega arith) m),
    ap (λ z. z % all) (omega (arith, ap add_up (drop_more holds j 0 l))) ∙ h.4.3,
  ),
)

pub duel_of : (all : ℕ) (holds : List ℕ) (i j : ℕ) → Held all holds j (Some i) → j < length holds → get_or holds j 0 ≢ all → Duel all holds i j
duel_of all holds i j h l ne = record {
  early = h.4.1.0;
  here = l;
  a_some = h.4.1.1;
  a_short = h.4.1.2;
  b_short = omega (arith, h.3 j l, ne);
}

pub held_duel : (all : ℕ) (holds : List ℕ) (i j x y : ℕ) → Duel all holds i j → Held all holds j (Some i) → Outcome all (get_or holds i 0) (get_or holds j 0) x y
    → Held all (after holds i j x y) (j + 1) (keeper all i j x y)
unfolding left
held_duel all holds i j x y f h o =
    let long : length (after holds i j x y) ≡ length holds = after_long holds i j x y in (
      h.0,
      h.1,
      omega (arith, f.here),
      (λ k lk. most k (omega arith)),
      (
        (λ k lk s. settled k lk s),
        kept (short all x) refl (short all y) refl,
        (λ k lk m. subst (λ z. 0 < z) (sym (after_k holds i j x y k (omega (arith, f.early)) (omega arith))) (h.4.2 k (omega arith) (omega arith))),
        even o.rest,
      ),
    )
  where
    most : (k : ℕ) → k < length holds → get_or (after holds i j x y) k 0 ≤ all
    most k lk = elim (ℕ_discrete k j) [
      | yes e ↦ subst (λ z. z ≤ all) (sym (ap (λ n. get_or (after holds i j x y) n 0) e ∙ after_j holds i j x y f.here)) o.y_most
      | no p ↦ elim (ℕ_discrete k i) [
        | yes e ↦ subst (λ z. z ≤ all) (sym (ap (λ n. get_or (after holds i j x y) n 0) e ∙ after_i holds i j x y f.early f.here)) o.x_most
        | no q ↦ subst (λ z. z ≤ all) (sym (after_k holds i j x y k q p)) (h.3 k lk)
      ]
    ]

    by_i : short all x ≡ true → is_pending (keeper all i j x y) i ≡ true
    by_i e = ap (λ p. is_pending p i) (keeps_i all i j x y e) ∙ eq-eqb i i refl

    by_j : (t : Bool) → short all x ≡ t → short all y ≡ true → is_pending (keeper all i j x y) j ≡ true
    by_j true e e' = no_way (sym e' ∙ o.one_short e)
    by_j false e e' = ap (λ p. is_pending p j) (keeps_j all i j x y e e') ∙ eq-eqb j j refl

    settled : (k : ℕ) → k < j + 1 → short all (get_or (after holds i j x y) k 0) ≡ true → is_pending (keeper all i j x y) k ≡ true
    settled k lk s = elim (ℕ_discrete k j) [
      | yes e ↦ subst (λ n. is_pending (keeper all i j x y) n ≡ true) (sym e)
          (by_j (short all x) refl (sym (ap (λ z. short all z) (ap (λ n. get_or (after holds i j x y) n 0) e ∙ after_j holds i j x y f.here)) ∙ s))
      | no p ↦ elim (ℕ_discrete k i) [
        | yes e ↦ subst (λ n. is_pending (keeper all i j x y) n ≡ true) (sym e)
            (by_i (sym (ap (λ z. short all z) (ap (λ n. get_or (after holds i j x y) n 0) e ∙ after_i holds i j x y f.early f.here)) ∙ s))
        | no q ↦ absurd (q (sym (eqb-true i k (h.4.0 k (omega arith) (sym (ap (λ z. short all z) (after_k holds i j x y k q p)) ∙ s)))))
      ]
    ]

    is_short : (z : ℕ) → short all z ≡ true → (0 < z) × (z < all)
    is_short z e = let p = and_parts (ltb 0 z) (ltb z all) e in (ltb-true 0 z p.0, ltb-true z all p.1)

    kept : (s : Bool) → short all x ≡ s → (t : Bool) → short all y ≡ t → PendingShort all (after holds i j x y) (j + 1) (cond s (Some i) (cond t (Some j) None))
    kept true e t e' =
        let p = is_short x e in
        let g : get_or (after holds i j x y) i 0 ≡ x = after_i holds i j x y f.early f.here in
        (omega (arith, f.early), subst (λ z. 0 < z) (sym g) p.0, subst (λ z. z < all) (sym g) p.1)
    kept false e true e' =
        let p = is_short y e' in
        let g : get_or (after holds i j x y) j 0 ≡ y = after_j holds i j x y f.here in
        (omega arith, subst (λ z. 0 < z) (sym g) p.0, subst (λ z. z < all) (sym g) p.1)
    kept false e false e' = tt

    amount_is : (s t : Bool) → amount (after holds i j x y) (cond s (Some i) (cond t (Some j) None)) ≡ cond s x (cond t y 0)
    amount_is true t = after_i holds i j x y f.early f.here
    amount_is false true = after_j holds i j x y f.here
    amount_is false false = refl

    even : (left all x y ≡ get_or holds i 0 + get_or holds j 0) ⊎ (left all x y + all ≡ get_or holds i 0 + get_or holds j 0) → Even all (after holds i j x y) (j + 1) (keeper all i j x y)
    even (inl e) =
        ap (λ z. z % all) (omega (arith, amount_is (short all x) (short all y), e, ap add_up (after_rest holds i j x y f.early), ap add_up (drop_more holds j 0 f.here))) ∙ h.4.3
    even (inr e) =
        same_rest (amount (after holds i j x y) (keeper all i j x y) + add_up (drop (j + 1) (after holds i j x y))) (amount holds (Some i) + add_up (drop j holds)) all
        (omega (arith, amount_is (short all x) (short all y), e, ap add_up (after_rest holds i j x y f.early), ap add_up (drop_more holds j 0 f.here))) h.4.3
