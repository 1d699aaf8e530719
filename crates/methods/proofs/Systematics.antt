-- The tree of systematic drawing: what a throw takes, and that the shares are exact.
use Rattle.std.proofs.Common.{◌≡◌, ℕ, zero, suc, ◌+◌, ◌*◌, ◌<◌, ◌≤◌, Bool, true, false, cond, ◌&&◌, T, eqb, ltb, leb, ◌↔◌, List, length, get_or, sym, refl, ap, ◌∙◌, subst, inl, inr, mul-le-mul_right, mul_comm, arith}
use mathlib.Core.Path.{fun_ext}
use mathlib.Core.Bool.{false≢true}
use native.Mathlib.Decide.{ℕ_discrete}
use denote.Struct.Props.{props}
use Rattle.std.proofs.lemmas.Bool.{eq-eqb, ne_eqb, leb-true, ltb-true, le-leb, lt-ltb, le-ltb, and_parts, and_from, or_cases, or_left, or_right, cases_lt}
use Rattle.std.proofs.lemmas.List.{get_or_past}
use Rattle.outcomes.specs.Trees.{finished, Share, Lawful, ways, subtree}
use Rattle.outcomes.specs.Counting.{Among}
use Rattle.outcomes.proofs.Trees.{one_throw_weight, one_throw_expect}
use Rattle.outcomes.proofs.Counting.{counting}
use Rattle.design.specs.Lists.{total}
use Rattle.design.specs.declared.row.Row.{Row}
use Rattle.methods.specs.Plain.{goals}
use Rattle.methods.specs.Systematic.{some, among, numbers_from, struck, systematic}
use Rattle.methods.specs.Holdings.{Within, taken_of}
use Rattle.methods.specs.SystematicRuns.{systematic_tree, Held, Struck}
use Rattle.methods.specs.Laws.{SystematicTakes, SystematicSound}
use Rattle.methods.proofs.Goals.{Fine, goals_long, goal_most, total_some}
use Rattle.methods.proofs.Plans.{Prepared, prepared_fine, plain_sound}
use Rattle.methods.proofs.Holdings.{no_way}
use Rattle.methods.proofs.Taking.{taken_called, share_settled}

-- ---- the test of a unit's numbers
some_from : (n j : ℕ) (p : ℕ → Bool) → j < n → p j ≡ true → some n p ≡ true
some_from zero j p l e = absurd (omega arith)
some_from (suc n) j p l e = elim (ℕ_discrete j n) [
  | yes same ↦ or_right (some n p) (p n) (ap p (sym same) ∙ e)
  | no other ↦ or_left (some n p) (p n) (some_from n j p (omega arith) e)
]

some_to : (n : ℕ) (p : ℕ → Bool) → some n p ≡ true → (j : ℕ) × (p j ≡ true)
some_to zero p e = absurd (false≢true e)
some_to (suc n) p e = elim (or_cases (some n p) (p n) e) [ inl f ↦ some_to n p f | inr f ↦ (n, f) ]

pub among_is : (all low goal r : ℕ) → 0 < all → (among all low goal r ≡ true) ↔ Among all low goal r
among_is all low goal r l = (
  λ h. let t = some_to (low + goal) (λ j. leb low (r + j * all) && ltb (r + j * all) (low + goal)) h in
      let p = and_parts (leb low (r + t.0 * all)) (ltb (r + t.0 * all) (low + goal)) t.1 in
      (t.0, leb-true low (r + t.0 * all) p.0, ltb-true (r + t.0 * all) (low + goal) p.1),
  λ h. let j : ℕ = h.0 in
      let small : j < low + goal = omega (arith, h.2, mul-le-mul_right j l) in
      some_from (low + goal) j (λ j. leb low (r + j * all) && ltb (r + j * all) (low + goal)) small
      (and_from (leb low (r + j * all)) (ltb (r + j * all) (low + goal)) (le-leb low (r + j * all) h.1) (lt-ltb (r + j * all) (low + goal) h.2)),
)

pub systematic_takes : SystematicTakes
systematic_takes all goals r k some = among_is all (numbers_from goals k) (get_or goals k 0) r some

-- ---- before the throw
fair_first : (all : ℕ) (goals : List ℕ) (k : ℕ) → 0 < all → Within all goals → k < length goals → Share k (get_or goals k 0) all (systematic all goals)
unfolding systematic
fair_first all goals k some within l =
    let goal : ℕ = get_or goals k 0 in
    ap (λ x. goal * x) (one_throw_weight all (λ r k. struck all goals r k))
    ∙ mul_comm goal all
    ∙ ap (λ x. all * x)
    (sym
    (one_throw_expect (λ u. cond (u k) 1 0) all (λ r k. struck all goals r k)
    ∙ counting all (numbers_from goals k) goal (within k l) (λ r. struck all goals r k) (λ r lr. systematic_takes all goals r k some)))

past_none : (all : ℕ) (goals : List ℕ) (r k : ℕ) → 0 < all → length goals ≤ k → struck all goals r k ≡ false
past_none all goals r k some l = by (struck all goals r k) refl
  where
    by : (b : Bool) → struck all goals r k ≡ b → b ≡ false
    by true e =
        let t : Among all (numbers_from goals k) (get_or goals k 0) r = (systematic_takes all goals r k some).0 e in
        absurd (omega (arith, t.1, t.2, get_or_past goals k 0 l))
    by false e = refl

lawful_first : (all : ℕ) (goals : List ℕ) → 0 < all → all ≤ 10240000 → Lawful (length goals) (systematic all goals)
unfolding systematic
lawful_first all goals some few =
    (some, few, λ r lr k t. elim (cases_lt k (length goals)) [ inl l ↦ l | inr l ↦ absurd (subst T (past_none all goals r k some l) t) ])

-- ---- after the throw
pub stepped : (all : ℕ) (before after : List ℕ) (r : ℕ) → 0 < all → Struck all before r after
    → systematic_tree all after true ≡ subtree (systematic_tree all before false) r
unfolding systematic
stepped all before after r some s = ap finished (fun_ext (λ k. one k))
  where
    pick : (b : Bool) → eqb (cond b all 0) all ≡ b
    pick true = eq-eqb all all refl
    pick false = ne_eqb 0 all (omega arith)

    one : (k : ℕ) → taken_of all after (length after) k ≡ struck all before r k
    one k = elim (cases_lt k (length after)) [
      | inl l ↦
          ap (λ t. cond t (eqb (get_or after k 0) all) false) (lt-ltb k (length after) l)
          ∙ ap (λ x. eqb x all) (s.1 k (omega (arith, s.0))) ∙ pick (struck all before r k)
      | inr l ↦
          ap (λ t. cond t (eqb (get_or after k 0) all) false) (le-ltb k (length after) l)
          ∙ sym (past_none all before r k some (omega (arith, s.0)))
    ]

-- ---- before and after
pub fair : (all : ℕ) (holds : List ℕ) (thrown : Bool) (k : ℕ) → Held all holds thrown → k < length holds → Share k (get_or holds k 0) all (systematic_tree all holds thrown)
fair all holds false k h l = fair_first all holds k h.0 h.3 l
fair all holds true k h l = share_settled all holds (length holds) k l (h.3 k l) (h.4 refl k l)

pub lawful : (all : ℕ) (holds : List ℕ) (thrown : Bool) → Held all holds thrown → Lawful (length holds) (systematic_tree all holds thrown)
lawful all holds false h = lawful_first all holds h.0 h.1
lawful all holds true h = λ k t. taken_called all holds (length holds) k t

-- ---- the plan
pub held_start : (list : List Row) (n : ℕ) → Fine list n → Held (total list) (goals list n) false
held_start list n f = (
  total_some list n f,
  f.checks.small,
  omega (arith, goals_long list n, f.checks.few_rows),
  λ k l. goal_most list n k f (subst (λ x. k < x) (goals_long list n) l),
  λ e. no_way (sym e),
)

pub systematic_sound : SystematicSound
systematic_sound list n = plain_sound list n (systematic (total list) (goals list n))
    (λ f. subst (λ x. Lawful x (systematic (total list) (goals list n))) (goals_long list n) (lawful (total list) (goals list n) false (held_start list n f)))
    (λ f k l. fair (total list) (goals list n) false k (held_start list n f) (subst (λ x. k < x) (sym (goals_long list n)) l))

-- ---- the calls
pub held_once : (all : ℕ) (holds : List ℕ) (thrown : Bool) → IsProp (Held all holds thrown)
held_once all holds thrown = hlevel props

pub ways_first : (all : ℕ) (holds : List ℕ) (thrown : Bool) → thrown ≡ false → all ≡ ways (systematic_tree all holds thrown)
unfolding systematic
ways_first all holds false e = refl
ways_first all holds true e = no_way e

-- a throw below the ways is the first, and below the total
pub throw_first : (all : ℕ) (holds : List ℕ) (thrown : Bool) (r : ℕ) → r < ways (systematic_tree all holds thrown) → (thrown ≡ false) × (r < all)
unfolding systematic
throw_first all holds false r l = (refl, l)
throw_first all holds true r l = absurd (omega (arith, l))

-- after the throw: `all'` is the run's total as it stands then
pub step_at : (all : ℕ) (before : List ℕ) (thrown : Bool) (all' : ℕ) (after : List ℕ) (r : ℕ) → all' ≡ all → thrown ≡ false → 0 < all → Struck all before r after
    → systematic_tree all' after true ≡ subtree (systematic_tree all before thrown) r
step_at all before thrown all' after r e f some s =
    ap (λ x. systematic_tree x after true) e ∙ stepped all before after r some s ∙ ap (λ b. subtree (systematic_tree all before b) r) (sym f)

pub held_begun : (list : List Row) (n all : ℕ) (items : List ℕ) → Prepared list n all items → Held all items false
held_begun list n all items p = prepared_fine list n all items p (λ x xs. Held x xs false) (held_start list n)
