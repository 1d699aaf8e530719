-- The tree of ordered pivotal drawing: that the shares are exact, and everything is within the limits.
use Rattle.std.proofs.Common.{◌≡◌, ℕ, zero, suc, ◌+◌, ◌-◌, ◌*◌, ◌%◌, ◌<◌, ◌≤◌, Bool, true, false, cond, ltb, ◌≢◌, List, length, get_or, drop, Some, None, Option, sym, refl, ap, ◌∙◌, subst, mod-eq_of_lt, mul_comm, arith}
use native.Mathlib.Decide.{ℕ_discrete}
use Rattle.std.proofs.lemmas.Bool.{ltb-true, ltb-false}
use Rattle.std.proofs.lemmas.List.{drop_all}
use Rattle.outcomes.specs.Sums.{sum}
use Rattle.outcomes.specs.Trees.{finished, Share, Lawful}
use Rattle.outcomes.proofs.Sums.{sum_two, sum_same, sum_constant}
use Rattle.outcomes.proofs.Trees.{share_martingale}
use Rattle.methods.specs.Pivotal.{pivotal}
use Rattle.methods.specs.Holdings.{taken_of}
use Rattle.methods.specs.PivotalRuns.{pending_of, pivotal_tree, duel_ways, pending_after, called_after, keeper, is_pending, add_up, Held}
use Rattle.methods.proofs.Holdings.{no_way}
use Rattle.methods.proofs.Taking.{taken_called, share_settled}
use Rattle.methods.proofs.Duels.{Duel, call_full, call_first, duel_tree, short_true, after, after_long, after_i, after_j, after_k, next}
use Rattle.methods.proofs.DuelStates.{outcome, held_full, held_first_call, duel_of, held_duel}

-- ---- fairness
-- the two hold on the average what they held before
high_sums : (a b all r p q : ℕ) → a ≡ r + q → b ≡ r + p → all ≡ r + q + p → (a * (q + p) ≡ q * all + p * r) × (b * (q + p) ≡ q * r + p * all)
high_sums a b all r p q ea eb el = (
  omega (arith, ap (λ z. z * (q + p)) ea, ap (λ z. q * z) el),
  omega (arith, ap (λ z. z * (q + p)) eb, ap (λ z. p * z) el),
)

sum_i : (all : ℕ) (holds : List ℕ) (i j : ℕ) → Duel all holds i j
    → get_or holds i 0 * duel_ways all (get_or holds i 0) (get_or holds j 0) ≡ sum (duel_ways all (get_or holds i 0) (get_or holds j 0)) (λ d. pending_after all (get_or holds i 0) (get_or holds j 0) d)
sum_i all holds i j h = go (get_or holds i 0) (get_or holds j 0) h.a_short h.b_short
  where
    go : (a b : ℕ) → a < all → b < all → a * duel_ways all a b ≡ sum (duel_ways all a b) (λ d. pending_after all a b d)
    go a b la lb = pick (ltb (a + b) all) refl
      where
        pick : (t : Bool) → ltb (a + b) all ≡ t → a * cond t (a + b) (2 * all - (a + b)) ≡ sum (cond t (a + b) (2 * all - (a + b))) (λ d. cond t (cond (ltb d a) (a + b) 0) (cond (ltb d (all - b)) all (a + b - all)))
        pick true e = omega (arith, sum_two a b (a + b) 0)
        pick false e =
            let l : all ≤ a + b = ltb-false (a + b) all e in
            let m : (all - b) + (all - a) ≡ 2 * all - (a + b) = omega arith in
            ap (λ z. a * z) (sym m)
            ∙ (high_sums a b all (a + b - all) (all - a) (all - b) (omega arith) (omega arith) (omega arith)).0
            ∙ sym (sum_two (all - b) (all - a) all (a + b - all))
            ∙ ap (λ z. sum z (λ d. cond (ltb d (all - b)) all (a + b - all))) m

sum_j : (all : ℕ) (holds : List ℕ) (i j : ℕ) → Duel all holds i j
    → get_or holds j 0 * duel_ways all (get_or holds i 0) (get_or holds j 0) ≡ sum (duel_ways all (get_or holds i 0) (get_or holds j 0)) (λ d. called_after all (get_or holds i 0) (get_or holds j 0) d)
sum_j all holds i j h = go (get_or holds i 0) (get_or holds j 0) h.a_short h.b_short
  where
    go : (a b : ℕ) → a < all → b < all → b * duel_ways all a b ≡ sum (duel_ways all a b) (λ d. called_after all a b d)
    go a b la lb = pick (ltb (a + b) all) refl
      where
        pick : (t : Bool) → ltb (a + b) all ≡ t → b * cond t (a + b) (2 * all - (a + b)) ≡ sum (cond t (a + b) (2 * all - (a + b))) (λ d. cond t (cond (ltb d a) 0 (a + b)) (cond (ltb d (all - b)) (a + b - all) all))
        pick true e = omega (arith, sum_two a b 0 (a + b))
        pick false e =
            let l : all ≤ a + b = ltb-false (a + b) all e in
            let m : (all - b) + (all - a) ≡ 2 * all - (a + b) = omega arith in
            ap (λ z. b * z) (sym m)
            ∙ (high_sums a b all (a + b - all) (all - a) (all - b) (omega arith) (omega arith) (omega arith)).1
            ∙ sym (sum_two (all - b) (all - a) (a + b - all) all)
            ∙ ap (λ z. sum z (λ d. cond (ltb d (all - b)) (a + b - all) all)) m

sum_k : (all : ℕ) (holds : List ℕ) (i j k : ℕ) → Duel all holds i j
    → get_or holds k 0 * duel_ways all (get_or holds i 0) (get_or holds j 0)
    ≡ sum (duel_ways all (get_or holds i 0) (get_or holds j 0)) (λ d. get_or (after holds i j (pending_after all (get_or holds i 0) (get_or holds j 0) d) (called_after all (get_or holds i 0) (get_or holds j 0) d)) k 0)
sum_k all holds i j k h =
    let a : ℕ = get_or holds i 0 in
    let b : ℕ = get_or holds j 0 in
    let m : ℕ = duel_ways all a b in
    elim (ℕ_discrete k j) [
      | yes e ↦ ap (λ n. get_or holds n 0 * m) e ∙ sum_j all holds i j h
          ∙ sum_same m (λ d. called_after all a b d) (λ d. get_or (after holds i j (pending_after all a b d) (called_after all a b d)) k 0)
          (λ d l. sym (ap (λ n. get_or (after holds i j (pending_after all a b d) (called_after all a b d)) n 0) e ∙ after_j holds i j (pending_after all a b d) (called_after all a b d) h.here))
      | no p ↦ elim (ℕ_discrete k i) [
        | yes e ↦ ap (λ n. get_or holds n 0 * m) e ∙ sum_i all holds i j h
            ∙ sum_same m (λ d. pending_after all a b d) (λ d. get_or (after holds i j (pending_after all a b d) (called_after all a b d)) k 0)
            (λ d l. sym (ap (λ n. get_or (after holds i j (pending_after all a b d) (called_after all a b d)) n 0) e ∙ after_i holds i j (pending_after all a b d) (called_after all a b d) h.early h.here))
        | no q ↦ mul_comm (get_or holds k 0) m ∙ sym (sum_constant m (get_or holds k 0))
            ∙ sum_same m (λ d. get_or holds k 0) (λ d. get_or (after holds i j (pending_after all a b d) (called_after all a b d)) k 0)
            (λ d l. sym (after_k holds i j (pending_after all a b d) (called_after all a b d) k q p))
      ]
    ]

pub tree_done : (all : ℕ) (holds : List ℕ) (j : ℕ) (pend : Option ℕ) → length holds ≤ j → pivotal_tree all holds j pend ≡ finished (taken_of all holds j)
unfolding pivotal
tree_done all holds j pend l = ap (λ xs. pivotal all xs j (pending_of holds pend) (taken_of all holds j)) (drop_all j holds l)

-- at the end nobody is pending
pub no_one_left : (all : ℕ) (holds : List ℕ) (j : ℕ) (pend : Option ℕ) → Held all holds j pend → length holds ≤ j → (k : ℕ) → is_pending pend k ≡ true → ⊥
no_one_left all holds j None h l k e = no_way (sym e)
no_one_left all holds j (Some i) h l k e =
    let z : add_up (drop j holds) ≡ 0 = ap add_up (drop_all j holds l) in
    let s : get_or holds i 0 + add_up (drop j holds) ≡ get_or holds i 0 = omega arith in
    let w : get_or holds i 0 ≡ 0 = sym (mod-eq_of_lt h.4.1.2) ∙ ap (λ x. x % all) (sym s) ∙ h.4.3 in
    omega (arith, h.4.1.1)

fair_from : (n : ℕ) (all : ℕ) (holds : List ℕ) (j : ℕ) (pend : Option ℕ) (k : ℕ) → n + j ≡ length holds → Held all holds j pend → k < length holds
    → Share k (get_or holds k 0) all (pivotal_tree all holds j pend)
fair_from zero all holds j pend k e h l =
    let end : length holds ≤ j = omega arith in
    subst (λ t. Share k (get_or holds k 0) all t) (sym (tree_done all holds j pend end)) (share_settled all holds j k (omega arith) (h.3 k l) none)
  where
    none : get_or holds k 0 < all → get_or holds k 0 ≡ 0
    none less = elim (ℕ_discrete (get_or holds k 0) 0) [
      | yes z ↦ z
      | no z ↦ absurd (no_one_left all holds j pend h (omega arith) k (h.4.0 k (omega arith) (short_true all (get_or holds k 0) (omega arith) less)))
    ]
fair_from (suc n) all holds j pend k e h l = elim (ℕ_discrete (get_or holds j 0) all) [
  | yes full ↦ subst (λ t. Share k (get_or holds k 0) all t) (sym (call_full all holds j pend (omega arith) full))
      (fair_from n all holds (j + 1) pend k (omega arith) (held_full all holds j pend h (omega arith) full) l)
  | no part ↦ other pend h part (λ hs p el hh. fair_from n all hs (j + 1) p k (omega arith) hh (omega arith))
]
  where
    other : (pend : Option ℕ) → Held all holds j pend → get_or holds j 0 ≢ all
        → ((hs : List ℕ) (p : Option ℕ) → length hs ≡ length holds → Held all hs (j + 1) p → Share k (get_or hs k 0) all (pivotal_tree all hs (j + 1) p))
        → Share k (get_or holds k 0) all (pivotal_tree all holds j pend)
    other None h part again = subst (λ t. Share k (get_or holds k 0) all t) (sym (call_first all holds j (omega arith) part))
        (again holds (Some j) refl (held_first_call all holds j h (omega arith) part))
    other (Some i) h part again =
        let f = duel_of all holds i j h (omega arith) part in
        let a : ℕ = get_or holds i 0 in
        let b : ℕ = get_or holds j 0 in
        subst (λ t. Share k (get_or holds k 0) all t) (sym (duel_tree all holds i j f))
        (share_martingale k (duel_ways all a b) (λ d. next all holds i j (pending_after all a b d) (called_after all a b d)) all (get_or holds k 0)
        (λ d. get_or (after holds i j (pending_after all a b d) (called_after all a b d)) k 0)
        (λ d ld. again (after holds i j (pending_after all a b d) (called_after all a b d)) (keeper all i j (pending_after all a b d) (called_after all a b d))
        (after_long holds i j (pending_after all a b d) (called_after all a b d))
        (held_duel all holds i j (pending_after all a b d) (called_after all a b d) f h (outcome all holds i j d f)))
        (sum_k all holds i j k f))

pub fair : (all : ℕ) (holds : List ℕ) (j : ℕ) (pend : Option ℕ) (k : ℕ) → Held all holds j pend → k < length holds → Share k (get_or holds k 0) all (pivotal_tree all holds j pend)
fair all holds j pend k h l = fair_from (length holds - j) all holds j pend k (omega (arith, h.2)) h l

pub ways_range : (all : ℕ) (holds : List ℕ) (i j : ℕ) → Duel all holds i j → all ≤ 10240000 → (1 ≤ duel_ways all (get_or holds i 0) (get_or holds j 0)) × (duel_ways all (get_or holds i 0) (get_or holds j 0) ≤ 10240000)
ways_range all holds i j f few = pick (ltb (get_or holds i 0 + get_or holds j 0) all) refl
  where
    pick : (t : Bool) → ltb (get_or holds i 0 + get_or holds j 0) all ≡ t
        → (1 ≤ cond t (get_or holds i 0 + get_or holds j 0) (2 * all - (get_or holds i 0 + get_or holds j 0))) × (cond t (get_or holds i 0 + get_or holds j 0) (2 * all - (get_or holds i 0 + get_or holds j 0)) ≤ 10240000)
    pick true e = (omega (arith, f.a_some), omega (arith, ltb-true (get_or holds i 0 + get_or holds j 0) all e))
    pick false e = (omega (arith, f.a_short, f.b_short), omega (arith, ltb-false (get_or holds i 0 + get_or holds j 0) all e))

lawful_from : (n : ℕ) (all : ℕ) (holds : List ℕ) (j : ℕ) (pend : Option ℕ) → n + j ≡ length holds → Held all holds j pend → Lawful (length holds) (pivotal_tree all holds j pend)
lawful_from zero all holds j pend e h =
    subst (λ t. Lawful (length holds) t) (sym (tree_done all holds j pend (omega arith))) (λ k t. omega (arith, taken_called all holds j k t))
lawful_from (suc n) all holds j pend e h = elim (ℕ_discrete (get_or holds j 0) all) [
  | yes full ↦ subst (λ t. Lawful (length holds) t) (sym (call_full all holds j pend (omega arith) full))
      (lawful_from n all holds (j + 1) pend (omega arith) (held_full all holds j pend h (omega arith) full))
  | no part ↦ other pend h part (λ hs p el hh. lawful_from n all hs (j + 1) p (omega arith) hh)
]
  where
    other : (pend : Option ℕ) → Held all holds j pend → get_or holds j 0 ≢ all
        → ((hs : List ℕ) (p : Option ℕ) → length hs ≡ length holds → Held all hs (j + 1) p → Lawful (length hs) (pivotal_tree all hs (j + 1) p))
        → Lawful (length holds) (pivotal_tree all holds j pend)
    other None h part again = subst (λ t. Lawful (length holds) t) (sym (call_first all holds j (omega arith) part))
        (again holds (Some j) refl (held_first_call all holds j h (omega arith) part))
    other (Some i) h part again =
        let f = duel_of all holds i j h (omega arith) part in
        let a : ℕ = get_or holds i 0 in
        let b : ℕ = get_or holds j 0 in
        let r = ways_range all holds i j f h.1 in
        subst (λ t. Lawful (length holds) t) (sym (duel_tree all holds i j f)) (
          r.0,
          r.1,
          λ d ld. subst (λ m. Lawful m (next all holds i j (pending_after all a b d) (called_after all a b d))) (after_long holds i j (pending_after all a b d) (called_after all a b d))
              (again (after holds i j (pending_after all a b d) (called_after all a b d)) (keeper all i j (pending_after all a b d) (called_after all a b d))
              (after_long holds i j (pending_after all a b d) (called_after all a b d))
              (held_duel all holds i j (pending_after all a b d) (called_after all a b d) f h (outcome all holds i j d f))),
        )

pub lawful : (all : ℕ) (holds : List ℕ) (j : ℕ) (pend : Option ℕ) → Held all holds j pend → Lawful (length holds) (pivotal_tree all holds j pend)
lawful all holds j pend h = lawful_from (length holds - j) all holds j pend (omega (arith, h.2)) h
