-- The calls of ordered pivotal drawing, over the state of a run.
use Rattle.std.proofs.Common.{◌≡◌, ℕ, zero, suc, ◌+◌, ◌-◌, ◌*◌, ◌%◌, ◌<◌, ◌≤◌, false, ◌≢◌, List, [], ◌∷◌, length, get_or, set, is_some, Some, None, Option, sym, ap, ◌∙◌, subst, ap₂, arith}
use native.Mathlib.Nat.{mul-mod_left}
use Rattle.std.proofs.Props.{props}
use Rattle.outcomes.specs.Sums.{sum}
use Rattle.outcomes.specs.Trees.{Share, Lawful, ways, subtree}
use Rattle.design.specs.Lists.{size_at, total}
use Rattle.design.specs.declared.row.Row.{Row}
use Rattle.methods.specs.Plain.{goals}
use Rattle.methods.specs.Pivotal.{nobody, pivotal}
use Rattle.methods.specs.PivotalRuns.{pivotal_tree, duel_ways, pending_after, called_after, keeper, PendingShort, add_up, Held, Intact, Due}
use Rattle.methods.specs.Laws.{PivotalSound}
use Rattle.methods.proofs.Goals.{Fine, goals_long, goal_some, goal_most, total_some}
use Rattle.methods.proofs.Plans.{Prepared, prepared_fine, plain_sound}
use Rattle.methods.proofs.Holdings.{no_way}
use Rattle.methods.proofs.Taking.{none_called}
use Rattle.methods.proofs.Duels.{Duel, call_full, call_first, duel_tree, after}
use Rattle.methods.proofs.DuelStates.{outcome, held_full, held_first_call, duel_of, held_duel}
use Rattle.methods.proofs.Pivotals.{fair, lawful, tree_done}

-- ---- the fact of a run that stands
short_one : (all : ℕ) (holds : List ℕ) (called : ℕ) (pend : Option ℕ) → IsProp (PendingShort all holds called pend)
short_one all holds called None = hlevel props
short_one all holds called (Some i) = hlevel props

pub intact_once : (all : ℕ) (holds : List ℕ) (called : ℕ) (pend : Option ℕ) → IsProp (Intact all holds called pend)
intact_once all holds called pend = hlevel (props, short_one)

-- ---- the search for the next duel
-- from `called` and `pend` it has come to `at`, where `waiting` is pending, and the tree is the same
abbrev pub Going : ℕ → List ℕ → ℕ → Option ℕ → ℕ → Option ℕ → Type 0
Going all holds called pend at waiting = Held all holds at waiting × (pivotal_tree all holds at waiting ≡ pivotal_tree all holds called pend)

going_more : (all : ℕ) (holds : List ℕ) (called : ℕ) (pend : Option ℕ) (at : ℕ) (waiting : Option ℕ) (n : ℕ) → Going all holds called pend at waiting → at + n ≤ length holds
    → ((k : ℕ) → at ≤ k → k < at + n → get_or holds k 0 ≡ all) → Going all holds called pend (at + n) waiting
going_more all holds called pend at waiting zero g l full = subst (λ x. Going all holds called pend x waiting) (omega arith) g
going_more all holds called pend at waiting (suc n) g l full =
    let h = going_more all holds called pend at waiting n g (omega (arith, l)) (λ k a b. full k a (omega (arith, b))) in
    let more : at + n < length holds = omega (arith, l) in
    let e : get_or holds (at + n) 0 ≡ all = full (at + n) (omega arith) (omega arith) in
    subst (λ x. Going all holds called pend x waiting) {x = at + n + 1} {y = at + suc n} (omega arith)
    (held_full all holds (at + n) waiting h.0 more e, sym (call_full all holds (at + n) waiting more e) ∙ h.1)

-- past units that hold all
pub going_past : (all : ℕ) (holds : List ℕ) (called : ℕ) (pend : Option ℕ) (at : ℕ) (waiting : Option ℕ) (next : ℕ) → Going all holds called pend at waiting → at ≤ next → next ≤ length holds
    → ((k : ℕ) → at ≤ k → k < next → get_or holds k 0 ≡ all) → Going all holds called pend next waiting
going_past all holds called pend at waiting next g a l full =
    let e : at + (next - at) ≡ next = omega (arith, a) in
    subst (λ x. Going all holds called pend x waiting) e (going_more all holds called pend at waiting (next - at) g (omega (arith, l, e)) (λ k ak kn. full k ak (omega (arith, kn, e))))

-- past one that does not, where nobody waits
pub going_first : (all : ℕ) (holds : List ℕ) (called : ℕ) (pend : Option ℕ) (at : ℕ) (waiting : Option ℕ) → Going all holds called pend at waiting → at < length holds → get_or holds at 0 ≢ all
    → is_some waiting ≡ false → Going all holds called pend (at + 1) (Some at)
going_first all holds called pend at (Some i) g l ne e = no_way e
going_first all holds called pend at None g l ne e = (held_first_call all holds at g.0 l ne, sym (call_first all holds at l ne) ∙ g.1)

-- ---- the plan
-- the goals add up to n times the total
sum_front : (m : ℕ) (f : ℕ → ℕ) → sum (suc m) f ≡ f 0 + sum m (λ k. f (suc k))
sum_front zero f = omega arith
sum_front (suc m) f = omega (arith, sum_front m f)

goals_add_up : (list : List Row) (n : ℕ) → add_up (goals list n) ≡ n * total list
goals_add_up [] n = omega arith
goals_add_up (r ∷ rs) n = omega (arith, goals_add_up rs n, ap (λ x. n * x) (sum_front (length rs) (size_at (r ∷ rs))))

pub began : (all : ℕ) (holds : List ℕ) → pivotal all holds 0 nobody (λ _. false) ≡ pivotal_tree all holds 0 None
began all holds = ap (λ u. pivotal all holds 0 nobody u) (none_called all holds)

pub held_start : (list : List Row) (n : ℕ) → Fine list n → Held (total list) (goals list n) 0 None
held_start list n f = (
  total_some list n f,
  f.checks.small,
  omega arith,
  λ k l. goal_most list n k f (subst (λ x. k < x) (goals_long list n) l),
  (
    λ k l. absurd (omega arith),
    tt,
    λ k l m. goal_some list n k f (subst (λ x. k < x) (goals_long list n) m),
    ap (λ x. x % total list) (omega (arith, goals_add_up list n)) ∙ mul-mod_left n (total list),
  ),
)

pub pivotal_sound : PivotalSound
pivotal_sound list n = plain_sound list n (pivotal (total list) (goals list n) 0 nobody (λ _. false))
    (λ f. subst (λ t. Lawful (length list) t) (sym (began (total list) (goals list n)))
    (subst (λ x. Lawful x (pivotal_tree (total list) (goals list n) 0 None)) (goals_long list n) (lawful (total list) (goals list n) 0 None (held_start list n f))))
    (λ f k l. subst (λ t. Share k (get_or (goals list n) k 0) (total list) t) (sym (began (total list) (goals list n)))
    (fair (total list) (goals list n) 0 None k (held_start list n f) (subst (λ x. k < x) (sym (goals_long list n)) l)))

-- ---- the calls
pub held_begun : (list : List Row) (n all : ℕ) (items : List ℕ) → Prepared list n all items → Held all items 0 None
held_begun list n all items p = prepared_fine list n all items p (λ x xs. Held x xs 0 None) (held_start list n)

pub ways_end : (all : ℕ) (holds : List ℕ) (called : ℕ) (pend : Option ℕ) → length holds ≤ called → ways (pivotal_tree all holds called pend) ≡ 0
ways_end all holds called pend l = ap ways (tree_done all holds called pend l)

pub duelling : (all : ℕ) (holds : List ℕ) (called i : ℕ) (pend : Option ℕ) → Intact all holds called pend → called < length holds → pend ≡ Some i → Duel all holds i called
duelling all holds called i pend w l e = duel_of all holds i called (subst (λ p. Held all holds called p) e w.0) l (w.1 l).1

pub ways_at : (all : ℕ) (holds : List ℕ) (called : ℕ) (pend : Option ℕ) (i a b m : ℕ) → Intact all holds called pend → Due holds called pend i a b → m ≡ duel_ways all a b
    → m ≡ ways (pivotal_tree all holds called pend)
ways_at all holds called pend i a b m w u e =
    e ∙ ap₂ (λ x y. duel_ways all x y) u.a_is u.b_is
    ∙ sym (ap (λ p. ways (pivotal_tree all holds called p)) u.pends ∙ ap ways (duel_tree all holds i called (duelling all holds called i pend w u.more u.pends)))

-- what the code knows after the duel, before the next is looked for: what the two are left with, who is kept pending, and what all hold then
pub record Fought (all : ℕ) (holds : List ℕ) (called i a b d x y : ℕ) (keep : Option ℕ) (after-it : List ℕ) : Type 0 where
  pub x_is : x ≡ pending_after all a b d
  pub y_is : y ≡ called_after all a b d
  pub keep_is : keep ≡ keeper all i called x y
  pub left : after-it ≡ after holds i called x y

pub fought : (all whole : ℕ) (holds : List ℕ) (called i a b d x y : ℕ) (keep : Option ℕ) (first both : List ℕ) → whole ≡ all
    → x ≡ pending_after whole a b d → y ≡ called_after whole a b d → keep ≡ keeper whole i called x y → first ≡ set holds i x → both ≡ set first called y
    → Fought all holds called i a b d x y keep both
fought all whole holds called i a b d x y keep first both e ex ey ek ef eb = record {
  x_is = ex ∙ ap (λ t. pending_after t a b d) e;
  y_is = ey ∙ ap (λ t. called_after t a b d) e;
  keep_is = ek ∙ ap (λ t. keeper t i called x y) e;
  left = eb ∙ ap (λ xs. set xs called y) ef;
}

module _ (all : ℕ) (holds : List ℕ) (called : ℕ) (pend : Option ℕ) (i a b d x y : ℕ) (keep : Option ℕ) (hs : List ℕ) (w : Intact all holds called pend)
    (u : Due holds called pend i a b) (f : Fought all holds called i a b d x y keep hs) where
  fx : x ≡ pending_after all (get_or holds i 0) (get_or holds called 0) d
  fx = f.x_is ∙ ap₂ (λ p q. pending_after all p q d) u.a_is u.b_is

  fy : y ≡ called_after all (get_or holds i 0) (get_or holds called 0) d
  fy = f.y_is ∙ ap₂ (λ p q. called_after all p q d) u.a_is u.b_is

  hs_is : hs ≡ after holds i called (pending_after all (get_or holds i 0) (get_or holds called 0) d) (called_after all (get_or holds i 0) (get_or holds called 0) d)
  hs_is = f.left ∙ ap₂ (λ p q. after holds i called p q) fx fy

  kept : keep ≡ keeper all i called (pending_after all (get_or holds i 0) (get_or holds called 0) d) (called_after all (get_or holds i 0) (get_or holds called 0) d)
  kept = f.keep_is ∙ ap₂ (λ p q. keeper all i called p q) fx fy

  fighters : Duel all holds i called
  fighters = duelling all holds called i pend w u.more u.pends

  pub held_fought : Held all hs (called + 1) keep
  held_fought =
      subst (λ z. Held all z (called + 1) keep) (sym hs_is)
      (subst (λ k. Held all (after holds i called (pending_after all (get_or holds i 0) (get_or holds called 0) d) (called_after all (get_or holds i 0) (get_or holds called 0) d)) (called + 1) k) (sym kept)
      (held_duel all holds i called (pending_after all (get_or holds i 0) (get_or holds called 0) d) (called_after all (get_or holds i 0) (get_or holds called 0) d) fighters
      (subst (λ p. Held all holds called p) u.pends w.0) (outcome all holds i called d fighters)))

  -- after the search for the next duel: `all'` is the run's total as it stands then
  pub step_at : (all' called' : ℕ) (pend' : Option ℕ) → all' ≡ all → pivotal_tree all hs called' pend' ≡ pivotal_tree all hs (called + 1) keep
      → pivotal_tree all' hs called' pend' ≡ subtree (pivotal_tree all holds called pend) d
  step_at all' called' pend' ea same =
      ap (λ z. pivotal_tree z hs called' pend') ea ∙ same ∙ ap₂ (λ z k. pivotal_tree all z (called + 1) k) hs_is kept
      ∙ sym (ap (λ p. subtree (pivotal_tree all holds called p) d) u.pends ∙ ap (λ t. subtree t d) (duel_tree all holds i called fighters))
