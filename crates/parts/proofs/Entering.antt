-- From one chosen part to the next.
use Rattle.std.proofs.Common.{◌≡◌, ℕ, zero, suc, ◌+◌, ◌-◌, ◌<◌, ◌≤◌, Bool, true, false, cond, ◌&&◌, ltb, leb, List, [], ◌∷◌, length, get_or, drop, is_ok, Ok, Err, Result, sym, refl, ap, ◌∙◌, subst, ap₂, add-zero, add-one, arith, le-ltb, lt-ltb}
use mathlib.Core.Path.{fun_ext}
use mathlib.Core.Bool.{false≢true}
use Rattle.std.proofs.lemmas.List.{drop-drop}
use Rattle.outcomes.specs.Trees.{Tree, Sample, Lawful, ways}
use Rattle.outcomes.proofs.Trees.{lawful_ways}
use Rattle.design.specs.Design.{Plan, refuses, accepts, Run, Standing, in_run, Began, SoundPlan}
use Rattle.design.specs.declared.fault.Fault.{Fault}
use Rattle.design.specs.declared.row.Row.{Row}
use Rattle.parts.specs.Parts.{Part}
use Rattle.design.specs.Plans.{Plans, tree_of, denominator_of, outcome, SoundPlans}
use Rattle.parts.specs.Series.{plan_for, joined, series, chosen}
use Rattle.parts.specs.Bounds.{Accepted}
use Rattle.parts.specs.Copying.{overwritten}
use Rattle.parts.specs.Running.{Tables, all_parts, first_row_of, part_at, is_chosen, so_far, ahead, run_over, has_present, standing_by, standing_of, run_from, NextChosen, Undisturbed, Loaded, Begins, NoneFrom, Within, Present, Underway, resumed}
use Rattle.parts.proofs.Tables.{at_stage, with_taken}
use Rattle.parts.proofs.Places.{rising_mono, cut_done}
use Rattle.parts.proofs.Seats.{split, bounded, rows_of, end_of}
use Rattle.parts.proofs.Shares.{accepted_at}
use Rattle.parts.proofs.Copying.{finished_is, written_past}

-- ---- parts that are passed over
skip_one : (c : Sample) (a : ℕ) (ps : List Part) → c a ≡ false → chosen c a ps ≡ chosen c (suc a) (drop 1 ps)
skip_one c a [] e = refl
skip_one c a (p ∷ ps) e = ap (λ b. cond b (p ∷ chosen c (suc a) ps) (chosen c (suc a) ps)) e

skip_many : (c : Sample) (ps : List Part) (from n : ℕ) → ((i : ℕ) → from ≤ i → i < from + n → c i ≡ false) → chosen c from (drop from ps) ≡ chosen c (from + n) (drop (from + n) ps)
skip_many c ps from zero h = ap (λ i. chosen c i (drop i ps)) (sym (add-zero from))
skip_many c ps from (suc n) h =
    skip_many c ps from n (λ i a b. h i a (omega arith))
    ∙ skip_one c (from + n) (drop (from + n) ps) (h (from + n) (omega arith) (omega arith))
    ∙ ap (λ (qs : List Part). chosen c (suc (from + n)) qs) (drop-drop 1 (from + n) ps)
    ∙ ap₂ (λ (i j : ℕ). chosen c i (drop j ps)) (one from n) (two from n)
  where
    one : (a b : ℕ) → suc (a + b) ≡ a + suc b
    one a b = omega arith

    two : (a b : ℕ) → a + b + 1 ≡ a + suc b
    two a b = omega arith

skip : (c : Sample) (ps : List Part) (from j : ℕ) → from ≤ j → ((i : ℕ) → from ≤ i → i < j → c i ≡ false) → chosen c from (drop from ps) ≡ chosen c j (drop j ps)
skip c ps from j l h = skip_many c ps from (j - from) (λ i a b. h i a (omega arith)) ∙ ap (λ i. chosen c i (drop i ps)) (up from j l)
  where
    up : (a b : ℕ) → a ≤ b → a + (b - a) ≡ b
    up a b l = omega arith

-- ---- the design below is begun on a part that it accepts
record Started {U : Type 0} (n : ℕ) (a : Plan) (r : Result U Fault) (st : Standing) : Type 0 where
  run : Run
  stands : st ≡ in_run run
  tree_is : tree_of a ≡ run.tree
  units_are : run.units ≡ n
  denominator_is : (k : ℕ) → run.denominator k ≡ denominator_of a k
  lawful : Lawful n run.tree
  ok : is_ok r ≡ true
  begins : Begins a st

started : {U : Type 0} (list : List Row) (a : Plan) (r : Result U Fault) (st : Standing) → SoundPlan list a → Accepted a → Began a r st → Started (length list) a r st
started list (refuses f) r st s ok b = absurd ok
started list (accepts num run) (Ok x) st s ok b =
    record { run = run; stands = b; tree_is = refl; units_are = s.units_listed; denominator_is = λ k. refl; lawful = s.lawful; ok = refl; begins = b }
started list (accepts num run) (Err e) st s ok b = absurd b

moved : {U : Type 0} (r : Result U Fault) (S : Type 0) (now old : Standing) → is_ok r ≡ true → S → now ≡ old → Undisturbed r S now old
moved (Ok x) S now old e s q = (s, q)
moved (Err f) S now old e s q = absurd (false≢true e)

module _ (B : Plans) (law : SoundPlans B) (v : Tables) (L : Loaded B v) (flags : length v.taken ≡ length v.rows)
    (all : length v.chosen + 1 ≡ length v.bounds) (from j : ℕ) (N : NextChosen v.chosen from j) (none : NoneFrom v (first_row_of v from)) where
  loaded : Loaded B (at_stage v j)
  loaded = record { rising = L.rising; accepted = L.accepted; shares_are = L.shares_are }

  next_is : chosen (is_chosen v) from (drop from (all_parts v)) ≡ chosen (is_chosen v) j (drop j (all_parts v))
  next_is = skip (is_chosen v) (all_parts v) from j N.low N.passed

  -- a part is left
  module _ {U : Type 0} (x : Result U Fault) (st : Standing) (more : j < length v.chosen) (begun : Began (plan_for B (part_at v j)) x st) where
    place : j + 1 < length v.bounds
    place = omega (arith, all)

    S : Started (length (part_at v j).rows) (plan_for B (part_at v j)) x st
    S = started (part_at v j).rows (plan_for B (part_at v j)) x st (law (part_at v j).rows (part_at v j).sample) (accepted_at B v L j place).0 begun

    within : Within B (at_stage v j) S.run
    within = record {
      units_are = S.units_are ∙ rows_of v L.rising j place;
      lawful = subst (λ n. Lawful n S.run.tree) (rows_of v L.rising j place) S.lawful;
      denominator_is = S.denominator_is;
      none_ahead = λ k l. none k (omega (arith, l, rising_mono v.bounds (length v.rows) from j L.rising N.low (omega (arith, place))));
    }

    ahead_is : ahead v from ≡ part_at v j ∷ ahead v (j + 1)
    ahead_is =
        next_is
        ∙ ap (λ (ps : List Part). chosen (is_chosen v) j ps) (split v L.rising j place)
        ∙ ap (λ b. cond b (part_at v j ∷ chosen (is_chosen v) (suc j) (drop (j + 1) (all_parts v))) (chosen (is_chosen v) (suc j) (drop (j + 1) (all_parts v)))) (N.found more)
        ∙ ap (λ i. part_at v j ∷ chosen (is_chosen v) i (drop (j + 1) (all_parts v))) (sym (add-one j))

    tree_is : resumed B (part_at v j) (ahead v (j + 1)) (so_far v) S.run.tree ≡ series B (ahead v from) (so_far v)
    tree_is =
        ap (λ (t : Tree Sample). resumed B (part_at v j) (ahead v (j + 1)) (so_far v) t) (sym S.tree_is)
        ∙ ap (λ (ps : List Part). series B ps (so_far v)) (sym ahead_is)

    pub entered_part : Undisturbed x (Underway B (at_stage v j) st) (standing_of B (at_stage v j) st) (run_from B v from (so_far v))
    entered_part =
        moved x (Underway B (at_stage v j) st) (standing_of B (at_stage v j) st) (run_from B v from (so_far v)) S.ok
        (record {
          loaded = loaded;
          flags = flags;
          present = subst (λ b. Present b B (at_stage v j) st) (sym has) (subst (λ (z : Standing). Present true B (at_stage v j) z) (sym S.stands) within);
          unmoved = λ e l. (S.begins, N.found more);
        })
        (ap (λ b. standing_by b B (at_stage v j) st) has ∙ ap (λ (z : Standing). standing_by true B (at_stage v j) z) S.stands
        ∙ ap (λ (t : Tree Sample). in_run (run_over B v t)) tree_is)
      where
        has : has_present (at_stage v j) ≡ true
        has = lt-ltb (j + 1) (length v.bounds) place

  -- none is left
  pub entered_none : {U : Type 0} (u : U) (st : Standing) → length v.chosen ≤ j
      → Undisturbed {U = U} (Ok u) (Underway B (at_stage v j) st) (standing_of B (at_stage v j) st) (run_from B v from (so_far v))
  entered_none u st done = (
    record { loaded = loaded; flags = flags; present = subst (λ b. Present b B (at_stage v j) st) (sym has) tt; unmoved = λ e l. absurd (omega (arith, l, done)) },
    ap (λ b. standing_by b B (at_stage v j) st) has ∙ ap (λ (ps : List Part). in_run (run_over B v (series B ps (so_far v)))) (sym ahead_none),
  )
    where
      has : has_present (at_stage v j) ≡ false
      has = le-ltb (j + 1) (length v.bounds) (omega (arith, all))

      ahead_none : ahead v from ≡ []
      ahead_none = next_is ∙ ap (λ (ps : List Part). chosen (is_chosen v) j ps) (cut_done _ v.rows v.bounds j (omega (arith, all)))

-- ---- the present part is finished, and its taken units are noted
pub record Noted (B : Plans) (v : Tables) (taken : List Bool) (st : Standing) : Type 0 where
  pub loaded : Loaded B (with_taken v taken)
  pub none : NoneFrom (with_taken v taken) (first_row_of v (v.stage + 1))
  pub stands : run_from B v (v.stage + 1) (so_far (with_taken v taken)) ≡ standing_of B v st

pub noted : (B : Plans) (v : Tables) (taken : List Bool) (r : Run) → Underway B v (in_run r) → v.stage + 1 < length v.bounds → ways r.tree ≡ 0
    → ((k : ℕ) → get_or taken k false ≡ overwritten (so_far v) (first_row_of v v.stage) (first_row_of v (v.stage + 1)) (outcome r.tree) k)
    → Noted B v taken (in_run r)
noted B v taken r U more over flags =
    let W : Within B v r = (subst (λ b. Present b B v (in_run r)) has U.present) in
    record {
      loaded = record { rising = U.loaded.rising; accepted = U.loaded.accepted; shares_are = U.loaded.shares_are };
      none = λ k l. flags k ∙ written_past (so_far v) (first_row_of v v.stage) (first_row_of v (v.stage + 1)) k (outcome r.tree) l
          ∙ W.none_ahead k (omega (arith, (bounded v U.loaded.rising v.stage more).0));
      stands =
          ap (λ (u : Sample). run_from B v (v.stage + 1) u) (fun_ext is)
          ∙ ap (λ (t : Tree Sample). in_run (run_over B v (resumed B (part_at v v.stage) (ahead v (v.stage + 1)) (so_far v) t)))
          (sym (finished_is r.tree (lawful_ways (first_row_of v (v.stage + 1) - first_row_of v v.stage) r.tree W.lawful) over))
          ∙ sym (ap (λ b. standing_by b B v (in_run r)) has);
    }
  where
    has : has_present v ≡ true
    has = lt-ltb (v.stage + 1) (length v.bounds) more

    is : (k : ℕ) → get_or taken k false ≡ joined (part_at v v.stage) (so_far v) (outcome r.tree) k
    is k = flags k ∙ ap (λ (b : ℕ). cond (leb (first_row_of v v.stage) k && ltb k b) (outcome r.tree (k - first_row_of v v.stage)) (so_far v k))
        (sym (end_of v U.loaded.rising v.stage more))
