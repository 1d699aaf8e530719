-- The tree of Poisson drawing: that the shares are exact, and that the state of a run follows its tree.
use Rattle.std.proofs.Common.{◌≡◌, ℕ, zero, suc, ◌+◌, ◌-◌, ◌*◌, ◌<◌, ◌≤◌, Bool, true, false, cond, T, eqb, ltb, ◌≢◌, List, [], ◌∷◌, length, get_or, drop, set, sym, refl, ap, ◌∙◌, subst, ap₂, inl, inr, add-one, arith}
use mathlib.Core.Path.{fun_ext}
use native.Mathlib.Decide.{ℕ_discrete}
use denote.Struct.Props.{props}
use Rattle.std.proofs.lemmas.Bool.{lt-ltb, le-ltb, eq-eqb, ne_eqb, eqb-true, cases_lt}
use Rattle.std.proofs.lemmas.List.{drop_more, drop_all, drop-set-lt, get_or-set_same, get_or-set_other, get_or-drop, length-drop, length-set}
use Rattle.outcomes.specs.Trees.{Sample, with, weight, expect, Share, Lawful, ways, subtree}
use Rattle.outcomes.proofs.Trees.{share_two, either}
use Rattle.design.specs.Lists.{total}
use Rattle.design.specs.declared.row.Row.{Row}
use Rattle.methods.specs.Plain.{goals}
use Rattle.methods.specs.Poisson.{poisson}
use Rattle.methods.specs.Holdings.{taken_of}
use Rattle.methods.specs.PoissonRuns.{poisson_tree, Held}
use Rattle.methods.specs.Laws.{PoissonSound}
use Rattle.methods.proofs.Goals.{Fine, goals_long, goal_most, total_some}
use Rattle.methods.proofs.Plans.{Prepared, prepared_fine, plain_sound}
use Rattle.methods.proofs.Taking.{with_other, with_same, one_more, none_called, taken_called}

-- ---- fairness
-- a unit that was called is taken or out
called_part : (all : ℕ) (rest : List ℕ) (j : ℕ) (u : Sample) (k : ℕ) → ((i : ℕ) → i < length rest → get_or rest i 0 ≤ all) → k < j
    → Share k (cond (u k) all 0) all (poisson all rest j u)
unfolding poisson weight expect
called_part all [] j u k h l = one (u k)
  where
    one : (b : Bool) → cond b all 0 * 1 ≡ all * cond b 1 0
    one true = omega arith
    one false = omega arith
called_part all (a ∷ rest) j u k h l =
    let x : ℕ = cond (u k) all 0 in
    let low : a ≤ all = h 0 (omega arith) in
    let later : (i : ℕ) → i < length rest → get_or rest i 0 ≤ all = λ i li. h (suc i) (omega arith) in
    let split : a + (all - a) ≡ all = omega arith in
    let ne : k ≢ j = omega arith in
    share_two k all a (all - a) (poisson all rest (suc j) (with u j)) (poisson all rest (suc j) u) all x x x
    split
    (λ _. subst (λ b. Share k (cond b all 0) all (poisson all rest (suc j) (with u j))) (with_other u j k ne)
    (called_part all rest (suc j) (with u j) k later (omega arith)))
    (λ _. called_part all rest (suc j) u k later (omega arith))
    (omega (arith, ap (λ z. x * z) split))

-- a unit that is still to be called has its goal
waiting_part : (all : ℕ) (rest : List ℕ) (j : ℕ) (u : Sample) (i k : ℕ) → ((i : ℕ) → i < length rest → get_or rest i 0 ≤ all)
    → ((k : ℕ) → j ≤ k → u k ≡ false) → k ≡ j + i → i < length rest
    → Share k (get_or rest i 0) all (poisson all rest j u)
unfolding poisson
waiting_part all [] j u i k h fresh e l = absurd (omega arith)
waiting_part all (a ∷ rest) j u zero k h fresh e l =
    let low : a ≤ all = h 0 (omega arith) in
    let later : (i : ℕ) → i < length rest → get_or rest i 0 ≤ all = λ i li. h (suc i) (omega arith) in
    let split : a + (all - a) ≡ all = omega arith in
    share_two k all a (all - a) (poisson all rest (suc j) (with u j)) (poisson all rest (suc j) u) all a all 0
    split
    (λ _. subst (λ b. Share k (cond b all 0) all (poisson all rest (suc j) (with u j))) (with_same u j k (omega arith))
    (called_part all rest (suc j) (with u j) k later (omega arith)))
    (λ _. subst (λ b. Share k (cond b all 0) all (poisson all rest (suc j) u)) (fresh k (omega arith))
    (called_part all rest (suc j) u k later (omega arith)))
    (omega arith)
waiting_part all (a ∷ rest) j u (suc i) k h fresh e l =
    let x : ℕ = get_or rest i 0 in
    let low : a ≤ all = h 0 (omega arith) in
    let later : (i : ℕ) → i < length rest → get_or rest i 0 ≤ all = λ i li. h (suc i) (omega arith) in
    let split : a + (all - a) ≡ all = omega arith in
    share_two k all a (all - a) (poisson all rest (suc j) (with u j)) (poisson all rest (suc j) u) all x x x
    split
    (λ _. waiting_part all rest (suc j) (with u j) i k later
    (λ k' lk. let ne : k' ≢ j = omega arith in with_other u j k' ne ∙ fresh k' (omega arith)) (omega arith) (omega arith))
    (λ _. waiting_part all rest (suc j) u i k later (λ k' lk. fresh k' (omega arith)) (omega arith) (omega arith))
    (omega (arith, ap (λ z. x * z) split))

lawful_from : (all : ℕ) (rest : List ℕ) (j : ℕ) (u : Sample) (units : ℕ) → 0 < all → all ≤ 10240000
    → ((k : ℕ) → T (u k) → k < units) → j + length rest ≤ units → Lawful units (poisson all rest j u)
unfolding poisson
lawful_from all [] j u units some few only l = only
lawful_from all (a ∷ rest) j u units some few only l = (
  some,
  few,
  λ d ld. either (Lawful units) (ltb d a) (poisson all rest (suc j) (with u j)) (poisson all rest (suc j) u)
      (lawful_from all rest (suc j) (with u j) units some few (λ k t. more k (eqb k j) refl t) (omega arith))
      (lawful_from all rest (suc j) u units some few only (omega arith)),
)
  where
    more : (k : ℕ) (b : Bool) → eqb k j ≡ b → T (cond b true (u k)) → k < units
    more k true e t = omega (arith, eqb-true k j e)
    more k false e t = only k t

-- ---- the state of a run
pub ways_open : (all : ℕ) (holds : List ℕ) (j : ℕ) → j < length holds → ways (poisson_tree all holds j) ≡ all
unfolding poisson
ways_open all holds j l = ap (λ xs. ways (poisson all xs j (taken_of all holds j))) (drop_more holds j 0 l)

pub ways_done : (all : ℕ) (holds : List ℕ) (j : ℕ) → length holds ≤ j → ways (poisson_tree all holds j) ≡ 0
unfolding poisson
ways_done all holds j l = ap (λ xs. ways (poisson all xs j (taken_of all holds j))) (drop_all j holds l)

after_taken : (all : ℕ) (holds : List ℕ) (j : ℕ) → j < length holds → with (taken_of all holds j) j ≡ taken_of all (set holds j all) (suc j)
after_taken all holds j l = fun_ext (λ k. sym (one_more all holds j all k l ∙ ap (λ b. cond (eqb k j) b (taken_of all holds j k)) (eq-eqb all all refl)))

after_out : (all : ℕ) (holds : List ℕ) (j : ℕ) → 0 < all → j < length holds → taken_of all holds j ≡ taken_of all (set holds j 0) (suc j)
after_out all holds j some l = fun_ext (λ k. sym (one_more all holds j 0 k l ∙ here k (eqb k j) refl))
  where
    here : (k : ℕ) (b : Bool) → eqb k j ≡ b → cond b (eqb 0 all) (taken_of all holds j k) ≡ taken_of all holds j k
    here k true e =
        let c : ltb k j ≡ false = le-ltb k j (omega (arith, eqb-true k j e)) in
        let z : eqb 0 all ≡ false = ne_eqb 0 all (omega arith) in
        simp (c, z)
    here k false e = refl

pub stepped : (all : ℕ) (holds : List ℕ) (j d x : ℕ) → 0 < all → j < length holds → x ≡ cond (ltb d (get_or holds j 0)) all 0
    → subtree (poisson_tree all holds j) d ≡ poisson_tree all (set holds j x) (j + 1)
unfolding poisson
stepped all holds j d x some l e =
    ap (λ xs. subtree (poisson all xs j (taken_of all holds j)) d) (drop_more holds j 0 l)
    ∙ pick (ltb d (get_or holds j 0))
    ∙ sym (ap (λ y. poisson_tree all (set holds j y) (j + 1)) e)
  where
    same : (y : ℕ) → drop (j + 1) holds ≡ drop (suc j) (set holds j y)
    same y = let lt : j < suc j = omega arith in ap (λ i. drop i holds) (add-one j) ∙ sym (drop-set-lt (suc j) holds j y lt)

    pick : (b : Bool) → cond b (poisson all (drop (j + 1) holds) (suc j) (with (taken_of all holds j) j)) (poisson all (drop (j + 1) holds) (suc j) (taken_of all holds j))
        ≡ poisson_tree all (set holds j (cond b all 0)) (j + 1)
    pick true = ap (λ xs. poisson all xs (suc j) (with (taken_of all holds j) j)) (same all)
        ∙ ap (λ u. poisson all (drop (suc j) (set holds j all)) (suc j) u) (after_taken all holds j l)
        ∙ sym (ap (λ i. poisson_tree all (set holds j all) i) (add-one j))
    pick false = ap (λ xs. poisson all xs (suc j) (taken_of all holds j)) (same 0)
        ∙ ap (λ u. poisson all (drop (suc j) (set holds j 0)) (suc j) u) (after_out all holds j some l)
        ∙ sym (ap (λ i. poisson_tree all (set holds j 0) i) (add-one j))

pub began : (all : ℕ) (holds : List ℕ) → poisson all holds 0 (λ _. false) ≡ poisson_tree all holds 0
began all holds = ap (λ u. poisson all holds 0 u) (none_called all holds)

pub fair : (all : ℕ) (holds : List ℕ) (j k : ℕ) → Held all holds j → k < length holds
    → Share k (get_or holds k 0) all (poisson_tree all holds j)
fair all holds j k held l = elim (cases_lt k j) [
  | inl before ↦
      let c : ltb k j ≡ true = lt-ltb k j before in
      let u : taken_of all holds j k ≡ eqb (get_or holds k 0) all = simp c in
      subst (λ x. Share k x all (poisson_tree all holds j)) (ap (λ b. cond b all 0) u ∙ two before (eqb (get_or holds k 0) all) refl)
      (called_part all (drop j holds) j (taken_of all holds j) k later before)
  | inr after ↦
      let e : get_or (drop j holds) (k - j) 0 ≡ get_or holds k 0 =
      get_or-drop j holds (k - j) 0 ∙ (let s : j + (k - j) ≡ k = omega arith in ap (λ i. get_or holds i 0) s) in
      let long : k - j < length (drop j holds) = simp length-drop (omega arith) in
      subst (λ x. Share k x all (poisson_tree all holds j)) e
      (waiting_part all (drop j holds) j (taken_of all holds j) (k - j) k later fresh (omega arith) long)
]
  where
    later : (i : ℕ) → i < length (drop j holds) → get_or (drop j holds) i 0 ≤ all
    later i li = subst (λ x. x ≤ all) (sym (get_or-drop j holds i 0)) (held.3 (j + i) (omega (arith, simp length-drop at li)))

    fresh : (k : ℕ) → j ≤ k → taken_of all holds j k ≡ false
    fresh k l = let c : ltb k j ≡ false = le-ltb k j l in simp c

    two : k < j → (b : Bool) → eqb (get_or holds k 0) all ≡ b → cond b all 0 ≡ get_or holds k 0
    two before true e = sym (eqb-true (get_or holds k 0) all e)
    two before false e = sym (held.4 k before (omega (arith, held.3 k l, ne e)))
      where
        ne : eqb (get_or holds k 0) all ≡ false → get_or holds k 0 ≢ all
        ne e s = let z : true ≡ false = sym (eq-eqb (get_or holds k 0) all s) ∙ e in absurd (let q : ◌≡◌ {A = ℕ} 0 1 = cc in omega arith)

pub lawful : (all : ℕ) (holds : List ℕ) (j : ℕ) → Held all holds j → Lawful (length holds) (poisson_tree all holds j)
lawful all holds j h =
    lawful_from all (drop j holds) j (taken_of all holds j) (length holds) h.0 h.1
    (λ k t. omega (arith, taken_called all holds j k t, h.2)) (simp length-drop (omega (arith, h.2)))

-- ---- the plan
held_start : (list : List Row) (n : ℕ) → Fine list n → Held (total list) (goals list n) 0
held_start list n f = (
  total_some list n f,
  f.checks.small,
  omega arith,
  λ k l. goal_most list n k f (subst (λ x. k < x) (goals_long list n) l),
  λ k l. absurd (omega arith),
)

pub poisson_sound : PoissonSound
poisson_sound list n = plain_sound list n (poisson (total list) (goals list n) 0 (λ _. false))
    (λ f. subst (λ t. Lawful (length list) t) (sym (began (total list) (goals list n)))
    (subst (λ x. Lawful x (poisson_tree (total list) (goals list n) 0)) (goals_long list n) (lawful (total list) (goals list n) 0 (held_start list n f))))
    (λ f k l. subst (λ t. Share k (get_or (goals list n) k 0) (total list) t) (sym (began (total list) (goals list n)))
    (fair (total list) (goals list n) 0 k (held_start list n f) (subst (λ x. k < x) (sym (goals_long list n)) l)))

-- ---- the calls
pub held_once : (all : ℕ) (holds : List ℕ) (called : ℕ) → IsProp (Held all holds called)
held_once all holds called = hlevel props

pub held_begun : (list : List Row) (n all : ℕ) (items : List ℕ) → Prepared list n all items → Held all items 0
held_begun list n all items p = prepared_fine list n all items p (λ x xs. Held x xs 0) (held_start list n)

-- where there is a way, there is a unit still to be called
pub way_more : (all : ℕ) (holds : List ℕ) (called d : ℕ) → d < ways (poisson_tree all holds called) → called < length holds
way_more all holds called d l = elim (cases_lt called (length holds)) [
  | inl more ↦ more
  | inr end ↦ absurd (omega (arith, l, ways_done all holds called end))
]

-- after the throw: `all'` and `after` are the run's as it stands then
pub step_at : (all : ℕ) (holds : List ℕ) (called all' : ℕ) (after : List ℕ) (d x : ℕ) → all' ≡ all → after ≡ set holds called x → 0 < all → called < length holds
    → x ≡ cond (ltb d (get_or holds called 0)) all 0 → poisson_tree all' after (called + 1) ≡ subtree (poisson_tree all holds called) d
step_at all holds called all' after d x ea eh some l e = ap₂ (λ y xs. poisson_tree y xs (called + 1)) ea eh ∙ sym (stepped all holds called d x some l e)

pub held_step : (all : ℕ) (holds : List ℕ) (called : ℕ) (all' : ℕ) (after : List ℕ) (x : ℕ) (b : Bool) → all' ≡ all → after ≡ set holds called x
    → Held all holds called → called < length holds → x ≡ cond b all 0 → Held all' after (called + 1)
held_step all holds called all' after x b ea eh h l e = subst (λ y. Held y after (called + 1)) (sym ea) (subst (λ xs. Held all xs (called + 1)) (sym eh) (
  h.0,
  h.1,
  simp length-set (omega arith),
  λ k lk. elim (ℕ_discrete k called) [
    | yes same ↦ subst (λ y. y ≤ all) (sym (here k same)) (low b e)
    | no other ↦ subst (λ y. y ≤ all) (sym (get_or-set_other holds called k x 0 other)) (h.3 k (omega (arith, length-set holds called x)))
  ],
  λ k lk under. elim (ℕ_discrete k called) [
    | yes same ↦ here k same ∙ none b e (subst (λ y. y < all) (here k same) under)
    | no other ↦ get_or-set_other holds called k x 0 other ∙ h.4 k (omega arith) (subst (λ y. y < all) (get_or-set_other holds called k x 0 other) under)
  ],
))
  where
    here : (k : ℕ) → k ≡ called → get_or (set holds called x) k 0 ≡ x
    here k same = ap (λ i. get_or (set holds called x) i 0) same ∙ get_or-set_same holds called x 0 l

    low : (b : Bool) → x ≡ cond b all 0 → x ≤ all
    low true e = omega arith
    low false e = omega arith

    none : (b : Bool) → x ≡ cond b all 0 → x < all → x ≡ 0
    none true e u = absurd (omega arith)
    none false e u = e
