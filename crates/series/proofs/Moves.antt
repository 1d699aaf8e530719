-- From part to part of a series: what the calls below give.
use Rattle.std.proofs.Common.{◌≡◌, ℕ, ◌+◌, ◌-◌, ◌<◌, ◌≤◌, Bool, true, false, ◌⊎◌, List, [], ◌∷◌, length, get_or, drop, replicate, MatchOption, Some, None, Option, Ok, Err, Result, sym, refl, ap, ◌∙◌, subst, inl, inr, arith}
use mathlib.Core.Path.{fun_ext}
use Rattle.std.specs.List.{position, position_or_len}
use Rattle.std.proofs.lemmas.Grind.{common_steps}
use Rattle.std.proofs.lemmas.List.{get_or_past, get_or-replicate, length-replicate, get_or-drop, length-drop}
use Rattle.std.proofs.lemmas.List.Quantifiers.{position-Some}
use Rattle.std.proofs.lemmas.List.Sums.{fails_before_first}
use Rattle.std.proofs.lemmas.Bool.{cases_lt, lt-ltb, false≢true}
use Rattle.outcomes.specs.Trees.{Sample}
use Rattle.outcomes.proofs.Trees.{lawful_ways}
use Rattle.design.specs.Design.{Standing, no_run, in_run, Began, Stepped, ways_of, below}
use Rattle.design.specs.declared.fault.Fault.{Fault}
use Rattle.parts.specs.Copying.{Over, outcome_of, overwritten}
use Rattle.parts.specs.Running.{Tables, first_row_of, part_at, so_far, standing_of, run_from, NextChosen, Undisturbed, Loaded, Ready, NoneFrom, Present, Underway, is_chosen}
use Rattle.parts.proofs.Tables.{at_stage, gone_on, with_taken}
use Rattle.design.specs.Plans.{Plans, nothing, SoundPlans}
use Rattle.parts.specs.Series.{plan_for}
use Rattle.parts.proofs.Entering.{entered_part, Noted, noted}
use Rattle.series.specs.Of.{SameList}

pub moved_trans : {U : Type 0} (r : Result U Fault) (S : Type 0) (now mid old : Standing) → Undisturbed r S now mid → mid ≡ old → Undisturbed r S now old
moved_trans (Ok u) S now mid old m e = (m.0, m.1 ∙ e)
moved_trans (Err f) S now mid old m e = m

pub stage_kept : (v : Tables) (j : ℕ) → SameList v (at_stage v j)
stage_kept v j = record { rows = refl; bounds = refl; samples = refl; shares = refl; chosen = refl }

pub same_trans : (u v w : Tables) → SameList u v → SameList v w → SameList u w
same_trans u v w a b = record {
  rows = b.rows ∙ a.rows;
  bounds = b.bounds ∙ a.bounds;
  samples = b.samples ∙ a.samples;
  shares = b.shares ∙ a.shares;
  chosen = b.chosen ∙ a.chosen;
}

-- other flags of taken units
pub same_taken : (v : Tables) (taken : List Bool) (w : Tables) → SameList (with_taken v taken) w → SameList v w
same_taken v taken w a = record { rows = a.rows; bounds = a.bounds; samples = a.samples; shares = a.shares; chosen = a.chosen }

-- after a step of the design
pub same_gone : (v w : Tables) → SameList (gone_on v) w → SameList v w
same_gone v w a = record { rows = a.rows; bounds = a.bounds; samples = a.samples; shares = a.shares; chosen = a.chosen }

pub ready_taken : (B : Plans) (v : Tables) (st : Standing) (taken : List Bool) → Ready B v st → Ready B (with_taken v taken) st
ready_taken B v st taken R = record {
  loaded = record { rising = R.loaded.rising; accepted = R.loaded.accepted; shares_are = R.loaded.shares_are };
  at_first = R.at_first;
}

-- no unit is taken yet
pub none_taken : (n k : ℕ) → get_or (replicate n false) k false ≡ false
none_taken n k = by (cases_lt k n)
  where
    by : (k < n) ⊎ (n ≤ k) → get_or (replicate n false) k false ≡ false
    by (inl l) = get_or-replicate n k false false l
    by (inr l) = get_or_past (replicate n false) k false (omega (arith, length-replicate n false))

pub run_fresh : (B : Plans) (v : Tables) (taken : List Bool) (n : ℕ) → taken ≡ replicate n false → run_from B v 0 (so_far (with_taken v taken)) ≡ run_from B v 0 nothing
run_fresh B v taken n e = ap (λ (u : Sample). run_from B v 0 u) (fun_ext (λ k. ap (λ (xs : List Bool). get_or xs k false) e ∙ none_taken n k))

-- a step of the design, after which finished parts are left
pub stepped_by : {U : Type 0} (r : Result U Fault) (S : Type 0) (now mid old : Standing) (d : ℕ) → Undisturbed r S now mid → mid ≡ below old d → d < ways_of old → Stepped old d r now × S
stepped_by (Ok u) S now mid old d m e l = ((l, m.1 ∙ e), m.0)
stepped_by (Err f) S now mid old d m e l = absurd m

-- the next chosen part is begun
pub enter_part : (B B' : Plans) (law : SoundPlans B) (v : Tables) → Loaded B v → length v.taken ≡ length v.rows
    → length v.chosen + 1 ≡ length v.bounds → (from j : ℕ) → NextChosen v.chosen from j → NoneFrom v (first_row_of v from) → {U : Type 0} (x : Result U Fault) (st : Standing)
    → j < length v.chosen → Began (plan_for B (part_at v j)) x st → B' ≡ B
    → Undisturbed x (Underway B' (at_stage v j) st) (standing_of B' (at_stage v j) st) (run_from B v from (so_far v))
enter_part B B' law v L flags all from j N none x st more begun e =
    subst (λ (C : Plans). Undisturbed x (Underway C (at_stage v j) st) (standing_of C (at_stage v j) st) (run_from B v from (so_far v))) (sym e)
    (entered_part B law v L flags all from j N none x st more begun)

-- the first part is chosen, and the design has just begun on it
pub enter_ready : (B : Plans) (law : SoundPlans B) (v : Tables) (st : Standing) → Ready B v st → length v.taken ≡ length v.rows
    → length v.chosen + 1 ≡ length v.bounds → NoneFrom v 0 → is_chosen v 0 ≡ true
    → Undisturbed {U = Unit {0}} (Ok tt) (Underway B (at_stage v 0) st) (standing_of B (at_stage v 0) st) (run_from B v 0 (so_far v))
enter_ready B law v st R flags all none is =
    let more = some v.chosen is in
    let N : NextChosen v.chosen 0 0 = record { low = omega arith; high = omega arith; passed = λ k p q. absurd (omega (arith, q)); found = λ m. is } in
    enter_part B B law v R.loaded flags all 0 0 N (λ k l. none k (omega arith)) (Ok tt) st more (R.at_first more) refl
  where
    some : (flags : List Bool) → get_or flags 0 false ≡ true → 0 < length flags
    some [] e = absurd (false≢true e)
    some (b ∷ bs) e = omega arith

-- the present part, from the row `first` up to `past`, is finished
pub passing : (B : Plans) (v : Tables) (taken : List Bool) (first past : ℕ) (st : Standing) → Underway B v st → v.stage + 1 < length v.bounds
    → first ≡ first_row_of v v.stage → past ≡ first_row_of v (v.stage + 1) → ways_of st ≡ 0
    → (Over st (past - first) → (k : ℕ) → get_or taken k false ≡ overwritten (so_far v) first past (outcome_of st) k) → Noted B v taken st
passing B v taken first past st U more f p over flags =
    by st U (subst (λ b. Present b B v st) (lt-ltb (v.stage + 1) (length v.bounds) more) U.present) over
    (subst (λ q. Over st (q - first_row_of v v.stage) → (k : ℕ) → get_or taken k false ≡ overwritten (so_far v) (first_row_of v v.stage) q (outcome_of st) k) p
    (subst (λ q. Over st (past - q) → (k : ℕ) → get_or taken k false ≡ overwritten (so_far v) q past (outcome_of st) k) f flags))
  where
    by : (st : Standing) → Underway B v st → Present true B v st → ways_of st ≡ 0
        → (Over st (first_row_of v (v.stage + 1) - first_row_of v v.stage) → (k : ℕ) → get_or taken k false ≡ overwritten (so_far v) (first_row_of v v.stage) (first_row_of v (v.stage + 1)) (outcome_of st) k)
        → Noted B v taken st
    by no_run U q z h = absurd q
    by (in_run r) U q z h =
        noted B v taken r U more z
        (h (q.units_are, lawful_ways (first_row_of v (v.stage + 1) - first_row_of v v.stage) r.tree q.lawful, z))

-- the search for the next chosen part: what it finds among the flags from `from` on
pub next_found : (flags : List Bool) (from r : ℕ) → from ≤ length flags → (o : Option ℕ) → o ≡ position (λ b. b) (drop from flags)
    → MatchOption o (r ≡ length flags) (λ i. r ≡ from + i) → NextChosen flags from r
next_found flags from r l (Some i) e is =
    let h = position-Some (λ b. b) (drop from flags) i false (sym e) in
    record {
      low = omega (arith, is);
      high = omega (arith, is, h.0, length-drop from flags);
      passed = λ k p q.
          let at : from + (k - from) ≡ k = omega arith in
          ap (λ n. get_or flags n false) (sym at) ∙ sym (get_or-drop from flags (k - from) false) ∙ h.2 (k - from) (omega (arith, is));
      found = λ m. ap (λ n. get_or flags n false) is ∙ sym (get_or-drop from flags i false) ∙ h.1;
    }
next_found flags from r l None e is =
    let all : length (drop from flags) ≤ position_or_len (λ b. b) (drop from flags) = grind (arith, common_steps) in
    record {
      low = omega (arith, is);
      high = omega (arith, is);
      passed = λ k p q.
          let at : from + (k - from) ≡ k = omega arith in
          ap (λ n. get_or flags n false) (sym at) ∙ sym (get_or-drop from flags (k - from) false)
          ∙ fails_before_first (λ b. b) (drop from flags) (k - from) false (omega (arith, is, length-drop from flags));
      found = λ m. absurd (omega (arith, is));
    }
