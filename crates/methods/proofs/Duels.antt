-- The tree of a pivotal run: calls without a duel, and duels.
use Rattle.std.proofs.Common.{◌≡◌, ℕ, suc, ◌+◌, ◌-◌, ◌*◌, ◌<◌, ◌≤◌, Bool, true, false, cond, eqb, ltb, ◌≢◌, List, ◌∷◌, length, get_or, drop, set, Some, None, Option, sym, refl, ap, ◌∙◌, subst, ap₂, add-one, arith}
use mathlib.Core.Path.{fun_ext}
use Rattle.std.proofs.lemmas.Bool.{lt-ltb, le-ltb, ltb-true, ltb-false, eq-eqb, ne_eqb, eqb-true, eqb-false}
use Rattle.std.proofs.lemmas.List.{drop_more, drop-set-lt, get_or-set_same, get_or-set_other, length-set}
use Rattle.outcomes.specs.Trees.{Tree, branching, Sample, with}
use Rattle.methods.specs.Pivotal.{Pending, nobody, pending, holder, pivotal}
use Rattle.methods.specs.Holdings.{taken_of}
use Rattle.methods.specs.PivotalRuns.{pending_of, pivotal_tree, duel_ways, pending_after, called_after, short, keeper}
use Rattle.methods.proofs.Taking.{not_yet, not_all, call_one, two_more}

-- ---- calls without a duel
pub call_full : (all : ℕ) (holds : List ℕ) (j : ℕ) (pend : Option ℕ) → j < length holds → get_or holds j 0 ≡ all → pivotal_tree all holds j pend ≡ pivotal_tree all holds (j + 1) pend
unfolding pivotal
call_full all holds j pend l e =
    ap (λ xs. pivotal all xs j (pending_of holds pend) (taken_of all holds j)) (drop_more holds j 0 l)
    ∙ skip pend
    ∙ ap (λ u. pivotal all (drop (j + 1) holds) (suc j) (pending_of holds pend) u) (fun_ext (λ k. sym (taken k)))
    ∙ ap (λ n. pivotal all (drop (j + 1) holds) n (pending_of holds pend) (taken_of all holds n)) (sym (add-one j))
  where
    full : eqb (get_or holds j 0) all ≡ true
    full = eq-eqb (get_or holds j 0) all e

    taken : (k : ℕ) → taken_of all holds (suc j) k ≡ with (taken_of all holds j) j k
    taken k = call_one all holds j k l ∙ ap (λ b. cond (eqb k j) b (taken_of all holds j k)) full

    skip : (pend : Option ℕ) → pivotal all (get_or holds j 0 ∷ drop (j + 1) holds) j (pending_of holds pend) (taken_of all holds j)
        ≡ pivotal all (drop (j + 1) holds) (suc j) (pending_of holds pend) (with (taken_of all holds j) j)
    skip None = ap (λ b. cond b (pivotal all (drop (j + 1) holds) (suc j) nobody (with (taken_of all holds j) j)) (pivotal all (drop (j + 1) holds) (suc j) (pending j (get_or holds j 0)) (taken_of all holds j))) full
    skip (Some i) = rw full refl

pub call_first : (all : ℕ) (holds : List ℕ) (j : ℕ) → j < length holds → get_or holds j 0 ≢ all → pivotal_tree all holds j None ≡ pivotal_tree all holds (j + 1) (Some j)
unfolding pivotal
call_first all holds j l ne =
    ap (λ xs. pivotal all xs j nobody (taken_of all holds j)) (drop_more holds j 0 l)
    ∙ ap (λ b. cond b (pivotal all (drop (j + 1) holds) (suc j) nobody (with (taken_of all holds j) j)) (pivotal all (drop (j + 1) holds) (suc j) (pending j (get_or holds j 0)) (taken_of all holds j))) part
    ∙ ap (λ u. pivotal all (drop (j + 1) holds) (suc j) (pending j (get_or holds j 0)) u) (fun_ext (λ k. sym (call_one all holds j k l ∙ ap (λ b. cond (eqb k j) b (taken_of all holds j k)) part ∙ kept k (eqb k j) refl)))
    ∙ ap (λ n. pivotal all (drop (j + 1) holds) n (pending j (get_or holds j 0)) (taken_of all holds n)) (sym (add-one j))
  where
    part : eqb (get_or holds j 0) all ≡ false
    part = ne_eqb (get_or holds j 0) all ne

    kept : (k : ℕ) (b : Bool) → eqb k j ≡ b → cond b false (taken_of all holds j k) ≡ taken_of all holds j k
    kept k true e = sym (not_yet all holds j k (omega (arith, eqb-true k j e)))
    kept k false e = refl

-- ---- a duel
pub short_true : (all x : ℕ) → 0 < x → x < all → short all x ≡ true
short_true all x l m = let a : ltb 0 x ≡ true = lt-ltb 0 x l in let b : ltb x all ≡ true = lt-ltb x all m in simp (a, b)

pub short_none : (all : ℕ) → short all 0 ≡ false
short_none all = let a : ltb 0 0 ≡ false = le-ltb 0 0 (omega arith) in simp a

pub short_all : (all : ℕ) → 0 < all → short all all ≡ false
short_all all l = let a : ltb 0 all ≡ true = lt-ltb 0 all l in let b : ltb all all ≡ false = le-ltb all all (omega arith) in simp (a, b)

abbrev pub after : List ℕ → ℕ → ℕ → ℕ → ℕ → List ℕ
after holds i j x y = set (set holds i x) j y

abbrev pub next : ℕ → List ℕ → ℕ → ℕ → ℕ → ℕ → Tree Sample
next all holds i j x y = pivotal_tree all (after holds i j x y) (j + 1) (keeper all i j x y)

pub after_long : (holds : List ℕ) (i j x y : ℕ) → length (after holds i j x y) ≡ length holds
after_long holds i j x y = length-set (set holds i x) j y ∙ length-set holds i x

pub after_j : (holds : List ℕ) (i j x y : ℕ) → j < length holds → get_or (after holds i j x y) j 0 ≡ y
after_j holds i j x y l = let e : length (set holds i x) ≡ length holds = length-set holds i x in get_or-set_same (set holds i x) j y 0 (omega arith)

pub after_i : (holds : List ℕ) (i j x y : ℕ) → i < j → j < length holds → get_or (after holds i j x y) i 0 ≡ x
after_i holds i j x y m l = let ne : i ≢ j = omega arith in get_or-set_other (set holds i x) j i y 0 ne ∙ get_or-set_same holds i x 0 (omega arith)

pub after_k : (holds : List ℕ) (i j x y k : ℕ) → k ≢ i → k ≢ j → get_or (after holds i j x y) k 0 ≡ get_or holds k 0
after_k holds i j x y k p q = get_or-set_other (set holds i x) j k y 0 q ∙ get_or-set_other holds i k x 0 p

pub after_rest : (holds : List ℕ) (i j x y : ℕ) → i < j → drop (j + 1) (after holds i j x y) ≡ drop (j + 1) holds
after_rest holds i j x y l =
    let p : j < j + 1 = omega arith in
    let q : i < j + 1 = omega arith in
    drop-set-lt (j + 1) (set holds i x) j y p ∙ drop-set-lt (j + 1) holds i x q

moved : (all : ℕ) (holds : List ℕ) (i j x y : ℕ) (p : Pending) (u : Sample) → i < j
    → pending_of (after holds i j x y) (keeper all i j x y) ≡ p → taken_of all (after holds i j x y) (suc j) ≡ u
    → pivotal all (drop (j + 1) holds) (suc j) p u ≡ next all holds i j x y
moved all holds i j x y p u l ep eu =
    ap (λ xs. pivotal all xs (suc j) p u) (sym (after_rest holds i j x y l))
    ∙ ap₂ (λ q v. pivotal all (drop (j + 1) (after holds i j x y)) (suc j) q v) (sym ep) (sym eu)
    ∙ ap (λ n. pivotal all (drop (j + 1) (after holds i j x y)) n (pending_of (after holds i j x y) (keeper all i j x y)) (taken_of all (after holds i j x y) n)) (sym (add-one j))

pub keeps_i : (all i j x y : ℕ) → short all x ≡ true → keeper all i j x y ≡ Some i
keeps_i all i j x y e = ap (λ t. cond t (Some i) (cond (short all y) (Some j) None)) e

pub keeps_j : (all i j x y : ℕ) → short all x ≡ false → short all y ≡ true → keeper all i j x y ≡ Some j
keeps_j all i j x y e f = ap (λ t. cond t (Some i) (cond (short all y) (Some j) None)) e ∙ ap (λ t. cond t (Some j) None) f

keeps_none : (all i j x y : ℕ) → short all x ≡ false → short all y ≡ false → keeper all i j x y ≡ None
keeps_none all i j x y e f = ap (λ t. cond t (Some i) (cond (short all y) (Some j) None)) e ∙ ap (λ t. cond t (Some j) None) f

-- what is known where two units duel
pub record Duel (all : ℕ) (holds : List ℕ) (i j : ℕ) : Type 0 where
  pub early : i < j
  pub here : j < length holds
  pub a_some : 0 < get_or holds i 0
  pub a_short : get_or holds i 0 < all
  pub b_short : get_or holds j 0 < all

-- a unit that is neither taken before nor now
neither_now : (all : ℕ) (holds : List ℕ) (i j x y : ℕ) → Duel all holds i j → eqb x all ≡ false → eqb y all ≡ false → taken_of all (after holds i j x y) (suc j) ≡ taken_of all holds j
neither_now all holds i j x y h ex ey = fun_ext (λ k. two_more all holds i j x y k h.early h.here ∙ ap₂ (λ s t. cond (eqb k j) s (cond (eqb k i) t (taken_of all holds j k))) ey ex ∙ one k (eqb k j) refl (eqb k i) refl)
  where
    one : (k : ℕ) (s : Bool) → eqb k j ≡ s → (t : Bool) → eqb k i ≡ t → cond s false (cond t false (taken_of all holds j k)) ≡ taken_of all holds j k
    one k true e t f = sym (not_yet all holds j k (omega (arith, eqb-true k j e)))
    one k false e true f = sym (not_all all holds j k (subst (λ n. get_or holds n 0 < all) (sym (eqb-true k i f)) h.a_short))
    one k false e false f = refl

i_now : (all : ℕ) (holds : List ℕ) (i j x y : ℕ) → Duel all holds i j → eqb x all ≡ true → eqb y all ≡ false → taken_of all (after holds i j x y) (suc j) ≡ with (taken_of all holds j) i
i_now all holds i j x y h ex ey = fun_ext (λ k. two_more all holds i j x y k h.early h.here ∙ ap₂ (λ s t. cond (eqb k j) s (cond (eqb k i) t (taken_of all holds j k))) ey ex ∙ one k (eqb k j) refl)
  where
    one : (k : ℕ) (s : Bool) → eqb k j ≡ s → cond s false (with (taken_of all holds j) i k) ≡ with (taken_of all holds j) i k
    one k true e =
        let ne : eqb k i ≡ false = ne_eqb k i (omega (arith, eqb-true k j e, h.early)) in
        sym (ap (λ t. cond t true (taken_of all holds j k)) ne ∙ not_yet all holds j k (omega (arith, eqb-true k j e)))
    one k false e = refl

j_now : (all : ℕ) (holds : List ℕ) (i j x y : ℕ) → Duel all holds i j → eqb x all ≡ false → eqb y all ≡ true → taken_of all (after holds i j x y) (suc j) ≡ with (taken_of all holds j) j
j_now all holds i j x y h ex ey = fun_ext (λ k. two_more all holds i j x y k h.early h.here ∙ ap₂ (λ s t. cond (eqb k j) s (cond (eqb k i) t (taken_of all holds j k))) ey ex ∙ ap (λ v. cond (eqb k j) true v) (one k (eqb k i) refl))
  where
    one : (k : ℕ) (t : Bool) → eqb k i ≡ t → cond t false (taken_of all holds j k) ≡ taken_of all holds j k
    one k true f = sym (not_all all holds j k (subst (λ n. get_or holds n 0 < all) (sym (eqb-true k i f)) h.a_short))
    one k false f = refl

pub duel_tree : (all : ℕ) (holds : List ℕ) (i j : ℕ) → Duel all holds i j
    → pivotal_tree all holds j (Some i)
    ≡ branching (duel_ways all (get_or holds i 0) (get_or holds j 0))
    (λ d. next all holds i j (pending_after all (get_or holds i 0) (get_or holds j 0) d) (called_after all (get_or holds i 0) (get_or holds j 0) d))
unfolding pivotal
duel_tree all holds i j h =
    let a : ℕ = get_or holds i 0 in
    let b : ℕ = get_or holds j 0 in
    ap (λ xs. pivotal all xs j (pending i a) (taken_of all holds j)) (drop_more holds j 0 h.here)
    ∙ ap (λ t. cond t (pivotal all (drop (j + 1) holds) (suc j) (pending i a) (with (taken_of all holds j) j)) (fight (ltb (a + b) all))) (ne_eqb b all (omega (arith, h.b_short)))
    ∙ pick (ltb (a + b) all) refl
  where
    low : Bool → Tree Sample
    low t = cond t (pivotal all (drop (j + 1) holds) (suc j) (pending i (get_or holds i 0 + get_or holds j 0)) (taken_of all holds j))
        (pivotal all (drop (j + 1) holds) (suc j) (pending j (get_or holds i 0 + get_or holds j 0)) (taken_of all holds j))

    high : Bool → Tree Sample
    high t = cond t (pivotal all (drop (j + 1) holds) (suc j) (holder j (get_or holds i 0 + get_or holds j 0 - all)) (with (taken_of all holds j) i))
        (pivotal all (drop (j + 1) holds) (suc j) (holder i (get_or holds i 0 + get_or holds j 0 - all)) (with (taken_of all holds j) j))

    fight : Bool → Tree Sample
    fight t = cond t (branching (get_or holds i 0 + get_or holds j 0) (λ d. low (ltb d (get_or holds i 0))))
        (branching (2 * all - (get_or holds i 0 + get_or holds j 0)) (λ d. high (ltb d (all - get_or holds j 0))))

    low_is : get_or holds i 0 + get_or holds j 0 < all → (t : Bool) → low t ≡ next all holds i j (cond t (get_or holds i 0 + get_or holds j 0) 0) (cond t 0 (get_or holds i 0 + get_or holds j 0))
    low_is l true =
        let s : ℕ = get_or holds i 0 + get_or holds j 0 in
        let es : eqb s all ≡ false = ne_eqb s all (omega arith) in
        let ez : eqb 0 all ≡ false = ne_eqb 0 all (omega arith) in
        moved all holds i j s 0 (pending i s) (taken_of all holds j) h.early
        (ap (λ o. pending_of (after holds i j s 0) o) (keeps_i all i j s 0 (short_true all s (omega (arith, h.a_some)) l)) ∙ ap (λ x. pending i x) (after_i holds i j s 0 h.early h.here))
        (neither_now all holds i j s 0 h es ez)
    low_is l false =
        let s : ℕ = get_or holds i 0 + get_or holds j 0 in
        let es : eqb s all ≡ false = ne_eqb s all (omega arith) in
        let ez : eqb 0 all ≡ false = ne_eqb 0 all (omega arith) in
        moved all holds i j 0 s (pending j s) (taken_of all holds j) h.early
        (ap (λ o. pending_of (after holds i j 0 s) o) (keeps_j all i j 0 s (short_none all) (short_true all s (omega (arith, h.a_some)) l)) ∙ ap (λ x. pending j x) (after_j holds i j 0 s h.here))
        (neither_now all holds i j 0 s h ez es)

    high_is : all ≤ get_or holds i 0 + get_or holds j 0 → (t : Bool) → high t ≡ next all holds i j (cond t all (get_or holds i 0 + get_or holds j 0 - all)) (cond t (get_or holds i 0 + get_or holds j 0 - all) all)
    high_is l true =
        let r : ℕ = get_or holds i 0 + get_or holds j 0 - all in
        let er : eqb r all ≡ false = ne_eqb r all (omega (arith, h.a_short, h.b_short)) in
        moved all holds i j all r (holder j r) (with (taken_of all holds j) i) h.early
        (keep (eqb r 0) refl)
        (i_now all holds i j all r h (eq-eqb all all refl) er)
      where
        keep : (t : Bool) → eqb (get_or holds i 0 + get_or holds j 0 - all) 0 ≡ t
            → pending_of (after holds i j all (get_or holds i 0 + get_or holds j 0 - all)) (keeper all i j all (get_or holds i 0 + get_or holds j 0 - all))
            ≡ cond t nobody (pending j (get_or holds i 0 + get_or holds j 0 - all))
        keep true e =
            let r : ℕ = get_or holds i 0 + get_or holds j 0 - all in
            ap (λ o. pending_of (after holds i j all r) o) (keeps_none all i j all r (short_all all (omega (arith, h.a_short))) (ap (λ x. short all x) (eqb-true r 0 e) ∙ short_none all))
        keep false e =
            let r : ℕ = get_or holds i 0 + get_or holds j 0 - all in
            ap (λ o. pending_of (after holds i j all r) o) (keeps_j all i j all r (short_all all (omega (arith, h.a_short))) (short_true all r (omega (arith, eqb-false r 0 e)) (omega (arith, h.a_short, h.b_short))))
            ∙ ap (λ x. pending j x) (after_j holds i j all r h.here)
    high_is l false =
        let r : ℕ = get_or holds i 0 + get_or holds j 0 - all in
        let er : eqb r all ≡ false = ne_eqb r all (omega (arith, h.a_short, h.b_short)) in
        moved all holds i j r all (holder i r) (with (taken_of all holds j) j) h.early
        (keep (eqb r 0) refl)
        (j_now all holds i j r all h er (eq-eqb all all refl))
      where
        keep : (t : Bool) → eqb (get_or holds i 0 + get_or holds j 0 - all) 0 ≡ t
            → pending_of (after holds i j (get_or holds i 0 + get_or holds j 0 - all) all) (keeper all i j (get_or holds i 0 + get_or holds j 0 - all) all)
            ≡ cond t nobody (pending i (get_or holds i 0 + get_or holds j 0 - all))
        keep true e =
            let r : ℕ = get_or holds i 0 + get_or holds j 0 - all in
            ap (λ o. pending_of (after holds i j r all) o) (keeps_none all i j r all (ap (λ x. short all x) (eqb-true r 0 e) ∙ short_none all) (short_all all (omega (arith, h.a_short))))
        keep false e =
            let r : ℕ = get_or holds i 0 + get_or holds j 0 - all in
            ap (λ o. pending_of (after holds i j r all) o) (keeps_i all i j r all (short_true all r (omega (arith, eqb-false r 0 e)) (omega (arith, h.a_short, h.b_short))))
            ∙ ap (λ x. pending i x) (after_i holds i j r all h.early h.here)

    pick : (t : Bool) → ltb (get_or holds i 0 + get_or holds j 0) all ≡ t
        → fight t ≡ branching (cond t (get_or holds i 0 + get_or holds j 0) (2 * all - (get_or holds i 0 + get_or holds j 0)))
        (λ d. next all holds i j
        (cond t (cond (ltb d (get_or holds i 0)) (get_or holds i 0 + get_or holds j 0) 0) (cond (ltb d (all - get_or holds j 0)) all (get_or holds i 0 + get_or holds j 0 - all)))
        (cond t (cond (ltb d (get_or holds i 0)) 0 (get_or holds i 0 + get_or holds j 0)) (cond (ltb d (all - get_or holds j 0)) (get_or holds i 0 + get_or holds j 0 - all) all)))
    pick true e = ap (λ f. branching (get_or holds i 0 + get_or holds j 0) f) (fun_ext (λ d. low_is (ltb-true (get_or holds i 0 + get_or holds j 0) all e) (ltb d (get_or holds i 0))))
    pick false e = ap (λ f. branching (2 * all - (get_or holds i 0 + get_or holds j 0)) f) (fun_ext (λ d. high_is (ltb-false (get_or holds i 0 + get_or holds j 0) all e) (ltb d (all - get_or holds j 0))))
