-- The shares of a series under way.
use Rattle.std.proofs.Common.{◌≡◌, ℕ, ◌+◌, ◌-◌, ◌*◌, ◌<◌, ◌≤◌, Bool, true, false, cond, List, length, drop, sym, refl, ◌∙◌, subst, ap₂, arith}
use Rattle.outcomes.specs.Trees.{Tree, finished, Sample, weight, expect, Average, HasWays}
use Rattle.outcomes.proofs.Trees.{lawful_ways}
use Rattle.design.specs.Design.{Run}
use Rattle.parts.specs.Parts.{Part}
use Rattle.design.specs.Plans.{Plans, numerator_of, denominator_of, SoundPlans}
use Rattle.parts.specs.Series.{plan_for, numerators, denominators}
use Rattle.parts.specs.Bounds.{Accepted, AllAccepted}
use Rattle.parts.proofs.Chains.{Inside, given_parts}
use Rattle.parts.specs.Seats.{Seated}
use Rattle.parts.specs.Running.{Tables, all_parts, first_row_of, part_at, is_chosen, so_far, ahead, Loaded, Within, resumed}
use Rattle.parts.proofs.Holds.{holds_past}
use Rattle.parts.proofs.Cuts.{chain_inside}
use Rattle.parts.proofs.Places.{rising_mono}
use Rattle.parts.proofs.Splits.{inside_split, accepted_split}
use Rattle.parts.proofs.Seats.{chain, apart, split, bounded, end_of, apart_after, from_on, seat_place, seat_unit, seat_row}
use Rattle.parts.proofs.Series.{X, given_is, fair_behind, fair_present, fair_ahead}

module _ (B : Plans) (v : Tables) (L : Loaded B v) where
  pub accepted_at : (j : ℕ) → j + 1 < length v.bounds → Accepted (plan_for B (part_at v j)) × AllAccepted B (drop (j + 1) (all_parts v))
  accepted_at j more = accepted_split B (all_parts v) j (part_at v j) (drop (j + 1) (all_parts v)) L.accepted (split v L.rising j more)

  -- ---- all parts are behind
  pub share_over : (k den : ℕ) → Average (X k) (cond (so_far v k) den 0) den (finished (so_far v))
  unfolding weight expect
  share_over k den = by (so_far v k)
    where
      by : (b : Bool) → cond b den 0 * 1 ≡ den * cond b 1 0
      by true = refl
      by false = omega arith

  -- ---- the design has the run r in the present part
  module _ (law : SoundPlans B) (more : v.stage + 1 < length v.bounds) (r : Run) (W : Within B v r) where
    abbrev now_tree : Tree Sample
    now_tree = resumed B (part_at v v.stage) (ahead v (v.stage + 1)) (so_far v) r.tree

    rooted : HasWays r.tree
    rooted = lawful_ways (first_row_of v (v.stage + 1) - first_row_of v v.stage) r.tree W.lawful

    module _ (k j : ℕ) (s : Seated v.bounds k j) where
      pub share_behind : (den : ℕ) → j < v.stage → Average (X k) (cond (so_far v k) den 0) den now_tree
      share_behind den l =
          fair_behind B (part_at v v.stage) (drop (v.stage + 1) (all_parts v)) (is_chosen v) (v.stage + 1) (length v.rows) k den (apart_after v L.rising v.stage more)
          (omega (arith, s.high, rising_mono v.bounds (length v.rows) (j + 1) v.stage L.rising (omega arith) (omega arith))) (so_far v) r.tree

      pub share_present : (num : ℕ) → j ≡ v.stage → Average (X (k - first_row_of v j)) num (r.denominator (k - first_row_of v j)) r.tree → Average (X k) num (denominators B (all_parts v) k) now_tree
      share_present num e fair =
          let s' : Seated v.bounds k v.stage = subst (λ i. Seated v.bounds k i) e s in
          let fair' : Average (X (k - first_row_of v v.stage)) num (r.denominator (k - first_row_of v v.stage)) r.tree =
          subst (λ i. Average (X (k - first_row_of v i)) num (r.denominator (k - first_row_of v i)) r.tree) e fair in
          let den : r.denominator (k - first_row_of v v.stage) ≡ denominators B (all_parts v) k =
          W.denominator_is (k - first_row_of v v.stage) ∙ sym (seat_unit v L.rising k v.stage s' (λ p. denominator_of (plan_for B p))) in
          fair_present B (part_at v v.stage) (drop (v.stage + 1) (all_parts v)) (is_chosen v) (v.stage + 1) (length v.rows) k num (denominators B (all_parts v) k) (apart_after v L.rising v.stage more)
          s'.low (omega (arith, end_of v L.rising v.stage more, s'.high)) (so_far v) r.tree rooted
          (subst (λ m. Average (X (k - first_row_of v v.stage)) num m r.tree) den fair')

      pub share_ahead : v.stage < j → Average (X k) (cond (is_chosen v j) (numerators B (all_parts v) k) 0) (denominators B (all_parts v) k) now_tree
      share_ahead l =
          let i : ℕ = v.stage + 1 in
          let mi : v.stage + 1 + 1 < length v.bounds = omega (arith, s.place) in
          let lo : first_row_of v (v.stage + 1) ≤ k = omega (arith, s.low, rising_mono v.bounds (length v.rows) (v.stage + 1) j L.rising (omega arith) (omega (arith, s.place))) in
          let gn = from_on v L.rising (λ p. numerator_of (plan_for B p)) (v.stage + 1) k mi lo in
          let gd = from_on v L.rising (λ p. denominator_of (plan_for B p)) (v.stage + 1) k mi lo in
          let out = holds_past (part_at v v.stage) k (omega (arith, end_of v L.rising v.stage more)) in
          let inside : Inside (drop (v.stage + 1) (all_parts v)) k =
          subst (λ (ps : List Part). Inside ps k) (sym (split v L.rising (v.stage + 1) mi))
          (inside_split (all_parts v) (v.stage + 1) 0 (length v.rows) k (part_at v (v.stage + 1)) (drop (v.stage + 1 + 1) (all_parts v)) (apart v L.rising) (split v L.rising (v.stage + 1) mi) lo
          (chain_inside 0 (all_parts v) (length v.rows) k (chain v L.rising) (omega arith) (seat_row v L.rising k j s))) in
          let given : given_parts B (is_chosen v) (v.stage + 1) (drop (v.stage + 1) (all_parts v)) k ≡ cond (is_chosen v j) (numerators B (all_parts v) k) 0 =
          given_is B (is_chosen v) (v.stage + 1) (drop (v.stage + 1) (all_parts v)) k
          ∙ ap₂ (λ (m p : ℕ). m * X p (is_chosen v)) (sym gn.0) (sym gn.1 ∙ seat_place v L.rising k j s) ∙ times (numerators B (all_parts v) k) (is_chosen v j) in
          subst (λ m. Average (X k) m (denominators B (all_parts v) k) now_tree) given
          (subst (λ m. Average (X k) (given_parts B (is_chosen v) (v.stage + 1) (drop (v.stage + 1) (all_parts v)) k) m now_tree) (sym gd.0)
          (fair_ahead B law (part_at v v.stage) (drop (v.stage + 1) (all_parts v)) (is_chosen v) (v.stage + 1) (length v.rows) k (apart_after v L.rising v.stage more)
          (accepted_at v.stage more).1 inside out (so_far v) (W.none_ahead k (omega (arith, (bounded v L.rising v.stage more).0))) r.tree rooted))
        where
          times : (m : ℕ) (b : Bool) → m * cond b 1 0 ≡ cond b m 0
          times m true = omega arith
          times m false = omega arith
