-- The tree of ordered pivotal drawing goes on by duels of the first two undecided units.
use Rattle.std.proofs.Common.{◌≡◌, ℕ, zero, suc, ◌+◌, ◌<◌, Bool, true, false, cond, eqb, ltb, ◌≢◌, List, length, get_or, Some, None, Option, sym, refl, ap, ◌∙◌, subst, arith}
use mathlib.Core.Path.{fun_ext}
use native.Mathlib.Decide.{ℕ_discrete}
use Rattle.std.proofs.lemmas.Bool.{lt-ltb, ltb-true, eq-eqb, eqb-true, eqb-false}
use Rattle.outcomes.specs.Trees.{finished}
use Rattle.design.specs.Design.{plan_of}
use Rattle.design.specs.Lists.{total}
use Rattle.design.specs.Plans.{tree_of}
use Rattle.design.specs.declared.row.Row.{Row}
use Rattle.methods.specs.Plain.{goals, plain_run}
use Rattle.methods.specs.Pivotal.{nobody, pivotal}
use Rattle.methods.specs.Holdings.{taken_of}
use Rattle.methods.specs.PivotalRuns.{pivotal_tree, pending_after, called_after, keeper, Held}
use Rattle.methods.specs.Duelling.{PlaysOut}
use Rattle.methods.specs.Laws.{PivotalPlaysOut}
use Rattle.methods.proofs.Holdings.{no_way}
use Rattle.methods.proofs.Duels.{call_full, call_first, duel_tree, short_true, after, after_long, after_i, after_j, after_k, next}
use Rattle.methods.proofs.DuelStates.{outcome, held_full, held_first_call, duel_of, held_duel}
use Rattle.methods.proofs.Pivotals.{tree_done, no_one_left}
use Rattle.methods.proofs.PivotalCalls.{began, held_start}
use Rattle.methods.proofs.Goals.{Fine, fine, goals_long}

-- what the units hold after a duel, read from the list
holds_after : (holds : List ℕ) (i j x y : ℕ) → i < j → j < length holds → (k : ℕ)
    → get_or (after holds i j x y) k 0 ≡ cond (eqb k i) x (cond (eqb k j) y (get_or holds k 0))
holds_after holds i j x y l m k = by (eqb k i) refl (eqb k j) refl
  where
    by : (s : Bool) → eqb k i ≡ s → (t : Bool) → eqb k j ≡ t → get_or (after holds i j x y) k 0 ≡ cond s x (cond t y (get_or holds k 0))
    by true e t f = ap (λ n. get_or (after holds i j x y) n 0) (eqb-true k i e) ∙ after_i holds i j x y l m
    by false e true f = ap (λ n. get_or (after holds i j x y) n 0) (eqb-true k j f) ∙ after_j holds i j x y m
    by false e false f = after_k holds i j x y k (eqb-false k i e) (eqb-false k j f)

-- where all units have been called, no unit is undecided, and those that hold all are taken
plays_end : (all : ℕ) (holds : List ℕ) (j : ℕ) (pend : Option ℕ) → j ≡ length holds → Held all holds j pend
    → PlaysOut all (length holds) (λ k. get_or holds k 0) (finished (taken_of all holds j))
plays_end all holds j pend e h = (
  λ k l s. no_one_left all holds j pend h (omega arith) k (h.4.0 k (omega arith) (short_true all (get_or holds k 0) s.0 s.1)),
  λ k. (
    λ t. taken k (ltb k j) refl t,
    λ p. ap (λ b. cond b (eqb (get_or holds k 0) all) false) (lt-ltb k j (omega (arith, p.0))) ∙ eq-eqb (get_or holds k 0) all p.1,
  ),
)
  where
    taken : (k : ℕ) (b : Bool) → ltb k j ≡ b → cond b (eqb (get_or holds k 0) all) false ≡ true → (k < length holds) × (get_or holds k 0 ≡ all)
    taken k true l t = (omega (arith, ltb-true k j l), eqb-true (get_or holds k 0) all t)
    taken k false l t = no_way (sym t)

plays_from : (n : ℕ) (all : ℕ) (holds : List ℕ) (j : ℕ) (pend : Option ℕ) → n + j ≡ length holds → Held all holds j pend
    → PlaysOut all (length holds) (λ k. get_or holds k 0) (pivotal_tree all holds j pend)
plays_from zero all holds j pend e h =
    subst (λ t. PlaysOut all (length holds) (λ k. get_or holds k 0) t) (sym (tree_done all holds j pend (omega arith))) (plays_end all holds j pend (omega arith) h)
plays_from (suc n) all holds j pend e h = elim (ℕ_discrete (get_or holds j 0) all) [
  | yes full ↦ subst (λ t. PlaysOut all (length holds) (λ k. get_or holds k 0) t) (sym (call_full all holds j pend (omega arith) full))
      (plays_from n all holds (j + 1) pend (omega arith) (held_full all holds j pend h (omega arith) full))
  | no part ↦ other pend h part (λ hs p el hh. plays_from n all hs (j + 1) p (omega arith) hh)
]
  where
    other : (pend : Option ℕ) → Held all holds j pend → get_or holds j 0 ≢ all
        → ((hs : List ℕ) (p : Option ℕ) → length hs ≡ length holds → Held all hs (j + 1) p → PlaysOut all (length hs) (λ k. get_or hs k 0) (pivotal_tree all hs (j + 1) p))
        → PlaysOut all (length holds) (λ k. get_or holds k 0) (pivotal_tree all holds j pend)
    other None h part again = subst (λ t. PlaysOut all (length holds) (λ k. get_or holds k 0) t) (sym (call_first all holds j (omega arith) part))
        (again holds (Some j) refl (held_first_call all holds j h (omega arith) part))
    other (Some i) h part again =
        let f = duel_of all holds i j h (omega arith) part in
        let a : ℕ = get_or holds i 0 in
        let b : ℕ = get_or holds j 0 in
        subst (λ t. PlaysOut all (length holds) (λ k. get_or holds k 0) t) (sym (duel_tree all holds i j f)) (
          i,
          j,
          record {
            in_order = f.early;
            listed = f.here;
            first = (f.a_some, f.a_short);
            second = (h.4.2 j (omega arith) f.here, f.b_short);
            no_other = λ k l s. sym (eqb-true i k (h.4.0 k l (short_true all (get_or holds k 0) s.0 s.1)));
          },
          refl,
          λ d ld.
              let x : ℕ = pending_after all a b d in
              let y : ℕ = called_after all a b d in
              subst (λ g. PlaysOut all (length holds) g (next all holds i j x y)) (fun_ext (λ k. holds_after holds i j x y f.early f.here k))
              (subst (λ m. PlaysOut all m (λ k. get_or (after holds i j x y) k 0) (next all holds i j x y)) (after_long holds i j x y)
              (again (after holds i j x y) (keeper all i j x y) (after_long holds i j x y) (held_duel all holds i j x y f h (outcome all holds i j d f)))),
        )

-- ---- the plan
plays_out : (list : List Row) (n : ℕ) → Fine list n
    → PlaysOut (total list) (length list) (λ k. get_or (goals list n) k 0) (pivotal (total list) (goals list n) 0 nobody (λ _. false))
plays_out list n f =
    let all : ℕ = total list in
    let held = goals list n in
    subst (λ m. PlaysOut all m (λ k. get_or held k 0) (pivotal all held 0 nobody (λ _. false))) (goals_long list n)
    (subst (λ t. PlaysOut all (length held) (λ k. get_or held k 0) t) (sym (began all held))
    (plays_from (length held) all held 0 None (omega arith) (held_start list n f)))

pub pivotal_plays_out : PivotalPlaysOut
pivotal_plays_out list n none =
    let t = pivotal (total list) (goals list n) 0 nobody (λ _. false) in
    subst (λ o. PlaysOut (total list) (length list) (λ k. get_or (goals list n) k 0) (tree_of (plan_of o (λ k. get_or (goals list n) k 0) (plain_run (total list) (length list) t))))
    (sym none) (plays_out list n (fine list n none))
