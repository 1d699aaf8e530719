-- A design tried on every part of a list.
use Rattle.std.proofs.Common.{◌≡◌, ℕ, ◌+◌, ◌-◌, ◌<◌, ◌≤◌, ◌⊎◌, List, length, get_or, drop, Some, None, Ok, Err, Option, Result, sym, refl, ap, ◌∙◌, subst, ap₂, inl, inr, arith}
use Rattle.std.specs.Prelude.{slice_index_or}
use Rattle.std.specs.Result.{result_and}
use Rattle.std.proofs.lemmas.Bool.{cases_lt}
use Rattle.outcomes.proofs.Trees.{lawful_ways}
use Rattle.design.specs.Faults.{Refusal, Answers}
use Rattle.design.specs.Design.{Plan, refuses, accepts, Standing, Began, SoundPlan}
use Rattle.design.specs.declared.fault.Fault.{Fault}
use Rattle.design.specs.Fractions.{Fraction, fraction}
use Rattle.parts.specs.Parts.{Part}
use Rattle.design.specs.Plans.{Plans, numerator_of, denominator_of, share_of, SoundPlans}
use Rattle.parts.specs.Series.{plan_for, prescribed, refused_or, part_refusal}
use Rattle.parts.specs.Bounds.{Rising}
use Rattle.parts.specs.Seats.{Seated}
use Rattle.parts.specs.Running.{Tables, all_parts, sample_of, first_row_of, part_at, no_share, AtPart, Begins, Ready}
use Rattle.parts.specs.Copying.{Fresh, overwritten}
use Rattle.parts.specs.Trying.{with_shares, WrittenIn, Tried}
use Rattle.parts.proofs.Places.{rising_zero, rising_last, cut_done}
use Rattle.parts.proofs.Seats.{split, rows_of, seat_unit}
use Rattle.parts.proofs.Copying.{written_in, written_past}
use Rattle.parts.proofs.Lawfuls.{all_accepted}

-- the parts from part i on were tried, the last first, and accepted: their prescribed shares are noted, and the design has just begun on part i
pub record Trial (B : Plans) (v : Tables) (shares : List Fraction) (i : ℕ) (st : Standing) : Type 0 where
  pub shares_are : (k : ℕ) → first_row_of v i ≤ k → k < length v.rows → slice_index_or shares k no_share ≡ prescribed B (all_parts v) k
  pub at_part : AtPart B v i st

-- the answer of the parts from part i on: their first refusal, if there is one
abbrev pub TriedFrom : {U : Type 0} → Plans → Tables → List Fraction → ℕ → Standing → Result U Fault → Type 0
TriedFrom B v shares i st r = Answers (part_refusal B (drop i (all_parts v))) (λ _. Trial B v shares i st) r

-- an answer whose value says more
answers_more : {U : Type 0} (o : Option Refusal) (P Q : U → Type 0) (r : Result U Fault) → (o ≡ None → (u : U) → P u → Q u) → Answers o P r → Answers o Q r
answers_more None P Q (Ok u) more h = more refl u h
answers_more None P Q (Err e) more h = h
answers_more (Some f) P Q (Ok u) more h = h
answers_more (Some f) P Q (Err e) more h = h

module _ (B : Plans) (v : Tables) (rise : Rising v.bounds (length v.rows)) where
  -- the design has begun on part j, and what share answers is written in
  pub tried_part : {U V : Type 0} (u : U) (x : V) (law : SoundPlans B) (j : ℕ) (shares : List Fraction) (st : Standing) → j + 1 < length v.bounds
      → Began {U = U} (plan_for B (part_at v j)) (Ok u) st
      → ((a : Plan) → Fresh a st (first_row_of v (j + 1) - first_row_of v j) → WrittenIn v j v.shares (share_of a) shares)
      → Tried {U = V} (plan_for B (part_at v j)) v j shares st (Ok x)
  tried_part {U} {V} u x law j shares st place b ws = by (plan_for B (part_at v j)) (law (part_at v j).rows (part_at v j).sample) b
    where
      by : (a : Plan) → SoundPlan (part_at v j).rows a → Began {U = U} a (Ok u) st → Tried {U = V} a v j shares st (Ok x)
      by (refuses f) s g = absurd g
      by (accepts num run) s g =
          let len = rows_of v rise j place in
          let fresh : Fresh (accepts num run) st (first_row_of v (j + 1) - first_row_of v j) =
          (g, s.units_listed ∙ len, lawful_ways (length (part_at v j).rows) run.tree s.lawful, λ k l. s.fair k (omega (arith, len))) in
          (ws (accepts num run) fresh, g)

  -- no part was tried yet
  pub trial_start : {U : Type 0} (u : U) (shares : List Fraction) (i : ℕ) (st : Standing) → length v.chosen + 1 ≡ length v.bounds → i ≡ length v.chosen
      → TriedFrom {U = U} B v shares i st (Ok u)
  trial_start {U} u shares i st all end =
      let last = rising_last v.bounds (length v.rows) i rise (omega (arith, all, end)) (omega (arith, all, end)) in
      let quiet : part_refusal B (drop i (all_parts v)) ≡ None =
      ap (λ (ps : List Part). part_refusal B ps) (cut_done (sample_of v) v.rows v.bounds i (omega (arith, all, end))) in
      subst (λ (o : Option Refusal). Answers {A = U} o (λ _. Trial B v shares i st) (Ok u)) (sym quiet)
      (record { shares_are = λ k l m. absurd (omega (arith, last, l, m)); at_part = λ l. absurd (omega (arith, end, l)) })

  module _ (shares shares' : List Fraction) (i : ℕ) (st st' : Standing) (place : i + 1 < length v.bounds) where
    noted : Trial B v shares (i + 1) st → WrittenIn v i shares (share_of (plan_for B (part_at v i))) shares' → (k : ℕ) → first_row_of v i ≤ k → k < length v.rows
        → get_or shares' k no_share ≡ prescribed B (all_parts v) k
    noted T w k l m = w k ∙ by (cases_lt k (first_row_of v (i + 1)))
      where
        by : (k < first_row_of v (i + 1)) ⊎ (first_row_of v (i + 1) ≤ k)
            → overwritten (λ i. get_or shares i no_share) (first_row_of v i) (first_row_of v (i + 1)) (share_of (plan_for B (part_at v i))) k ≡ prescribed B (all_parts v) k
        by (inl b) =
            let s : Seated v.bounds k i = record { place = place; low = l; high = b } in
            written_in (λ i. get_or shares i no_share) (first_row_of v i) (first_row_of v (i + 1)) k (share_of (plan_for B (part_at v i))) l b
            ∙ ap₂ fraction
            (sym (seat_unit v rise k i s (λ q. numerator_of (plan_for B q)))) (sym (seat_unit v rise k i s (λ q. denominator_of (plan_for B q))))
        by (inr b) = written_past (λ i. get_or shares i no_share) (first_row_of v i) (first_row_of v (i + 1)) k (share_of (plan_for B (part_at v i))) b ∙ T.shares_are k b m

    parts_are : part_refusal B (drop i (all_parts v)) ≡ refused_or (first_row_of v i) (plan_for B (part_at v i)) (part_refusal B (drop (i + 1) (all_parts v)))
    parts_are = ap (λ (ps : List Part). part_refusal B ps) (split v rise i place)

    -- part i was tried, after those behind it
    pub trial_step : {U V : Type 0} (x : Result V Fault) (r : Result U Fault) → TriedFrom {U = U} B v shares (i + 1) st r
        → Tried {U = V} (plan_for B (part_at v i)) (with_shares v shares) i shares' st' x → TriedFrom {U = U} B v shares' i st' (result_and x r)
    trial_step {U} {V} x r T h =
        subst (λ (o : Option Refusal). Answers {A = U} o (λ _. Trial B v shares' i st') (result_and x r)) (sym parts_are) (by (plan_for B (part_at v i)) refl x h)
      where
        by : (a : Plan) → plan_for B (part_at v i) ≡ a → (x : Result V Fault) → Tried {U = V} a (with_shares v shares) i shares' st' x
            → Answers {A = U} (refused_or (first_row_of v i) a (part_refusal B (drop (i + 1) (all_parts v)))) (λ _. Trial B v shares' i st') (result_and x r)
        by (refuses f) is (Ok u) h = absurd h
        by (refuses f) is (Err e) h = h
        by (accepts num run) is (Ok u) h =
            answers_more (part_refusal B (drop (i + 1) (all_parts v))) (λ _. Trial B v shares (i + 1) st) (λ _. Trial B v shares' i st') r
            (λ none z t. record {
              shares_are = noted t (subst (λ (a : Plan). WrittenIn v i shares (share_of a) shares') (sym is) h.0);
              at_part = λ l. subst (λ (a : Plan). Begins a st') (sym is) h.1;
            }) T
        by (accepts num run) is (Err e) h = absurd h

  -- all parts were tried
  pub trial_end : {U : Type 0} (shares : List Fraction) (st : Standing) (r : Result U Fault) → TriedFrom {U = U} B v shares 0 st r
      → Answers {A = U} (part_refusal B (all_parts v)) (λ _. Ready B (with_shares v shares) st) r
  trial_end {U} shares st r =
      let z = (rising_zero v.bounds (length v.rows) rise).0 in
      answers_more (part_refusal B (all_parts v)) (λ _. Trial B v shares 0 st) (λ _. Ready B (with_shares v shares) st) r
      (λ none u t. record {
        loaded = record { rising = rise; accepted = all_accepted B (all_parts v) none; shares_are = λ k l. t.shares_are k (omega (arith, z)) l };
        at_first = t.at_part;
      })
