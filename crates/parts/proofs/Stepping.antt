-- The calls of a series under way: ways, step and share, and what holds of every run that stands.
use Rattle.std.proofs.Common.{◌≡◌, ℕ, suc, ◌+◌, ◌-◌, ◌^◌, ◌<◌, ◌≤◌, Bool, true, false, cond, T, ltb, ◌⊎◌, List, [], ◌∷◌, length, get_or, drop, Ok, Err, Result, sym, refl, ap, ◌∙◌, subst, ap₂, inl, inr, add-one, arith, le-ltb, lt-ltb}
use native.Mathlib.Decide.{ℕ_discrete}
use Rattle.std.proofs.lemmas.List.{get_or_past}
use Rattle.std.proofs.lemmas.Bool.{cases_lt, false≢true}
use Rattle.outcomes.specs.Trees.{Tree, finished, branching, Sample, Average, Lawful, ways, subtree, bind}
use Rattle.design.specs.Design.{Plan, refuses, accepts, Run, Standing, no_run, in_run, Shared, SoundPlan, SoundStanding, ways_of, below}
use Rattle.design.specs.declared.fault.Fault.{Fault}
use Rattle.design.specs.Fractions.{Fraction, fraction}
use Rattle.design.specs.Plans.{Plans, numerator_of, denominator_of, share_of, SoundPlans}
use Rattle.parts.specs.Series.{plan_for, joined, series, denominators, numerators}
use Rattle.parts.specs.Bounds.{Steps, Rising}
use Rattle.parts.specs.Seats.{Seated}
use Rattle.parts.specs.Running.{Tables, all_parts, first_row_of, part_at, is_chosen, so_far, ahead, Begins, run_over, has_present, standing_by, standing_of, Within, Present, Underway, Settled, Intact, resumed}
use Rattle.parts.proofs.Tables.{gone_on}
use Rattle.parts.proofs.Seats.{chain, apart_after, rows_of, seat_row, seat_unit}
use Rattle.parts.proofs.Series.{X, apart_chosen, accepted_chosen}
use Rattle.parts.proofs.Shares.{accepted_at, share_over, share_behind, share_present, share_ahead}
use Rattle.parts.proofs.Lawfuls.{lawful_bind, joined_below, apart_le, lawful_apart, prescribed_parts}

-- every row lies in a part
steps_seat : (a : ℕ) (bs : List ℕ) (e k : ℕ) → Steps a bs e → a ≤ k → k < e → (j : ℕ) × (j < length bs) × (get_or (a ∷ bs) j 0 ≤ k) × (k < get_or bs j 0)
steps_seat a [] e k h l m = absurd (omega (arith, h))
steps_seat a (b ∷ bs) e k h l m = by (cases_lt k b) (λ c. steps_seat b bs e k h.1 c m)
  where
    by : (k < b) ⊎ (b ≤ k) → (b ≤ k → (j : ℕ) × (j < length bs) × (get_or (b ∷ bs) j 0 ≤ k) × (k < get_or bs j 0))
        → (j : ℕ) × (j < suc (length bs)) × (get_or (a ∷ b ∷ bs) j 0 ≤ k) × (k < get_or (b ∷ bs) j 0)
    by (inl c) ih = (0, omega arith, l, c)
    by (inr c) ih = let r = ih c in (suc r.0, omega (arith, r.1), r.2, r.3)

pub seat_of : (bs : List ℕ) (e k : ℕ) → Rising bs e → k < e → (j : ℕ) × Seated bs k j
seat_of [] e k h l = absurd h
seat_of (a ∷ bs) e k h l =
    let s = steps_seat a bs e k h.1 (omega (arith, h.0)) l in
    (s.0, record { place = omega (arith, s.1); low = s.2; high = subst (λ i. k < get_or (a ∷ bs) i 0) (sym (add-one s.0)) s.3 })

-- ---- ways and step
ways_by : (b : Bool) (B : Plans) (v : Tables) (st : Standing) → Present b B v st → Settled b st → ways_of (standing_by b B v st) ≡ cond b (ways_of st) 0
ways_by true B v no_run p s = absurd p
ways_by true B v (in_run r) p s = open_tree r.tree s
  where
    open_tree : (t : Tree Sample) → 0 < ways t → ways (resumed B (part_at v v.stage) (ahead v (v.stage + 1)) (so_far v) t) ≡ ways t
    open_tree (finished u) l = absurd (omega arith)
    open_tree (branching m sub) l = refl
ways_by false B v st p s = refl

pub ways_are : (B : Plans) (v : Tables) (st : Standing) → Intact B v st → ways_of (standing_of B v st) ≡ cond (has_present v) (ways_of st) 0
ways_are B v st h = ways_by (has_present v) B v st h.underway.present h.settled

lawful_subtree : (n d : ℕ) (t : Tree Sample) → Lawful n t → d < ways t → Lawful n (subtree t d)
lawful_subtree n d (finished u) l h = absurd (omega arith)
lawful_subtree n d (branching m sub) l h = l.2 d h

bind_down : (h : Sample → Tree Sample) (d : ℕ) (t : Tree Sample) → d < ways t → bind (subtree t d) h ≡ subtree (bind t h) d
bind_down h d (finished u) l = absurd (omega arith)
bind_down h d (branching m sub) l = refl

-- a step of the design in the present part is one of the series
pub stepped_down : (B : Plans) (v : Tables) (st st' : Standing) (d : ℕ) → Underway B v st → has_present v ≡ true → d < ways_of st → st' ≡ below st d
    → Underway B (gone_on v) st' × (standing_of B (gone_on v) st' ≡ below (standing_of B v st) d)
stepped_down B v st st' d U has l e = by st U (subst (λ b. Present b B v st) has U.present) l e
  where
    by : (st : Standing) → Underway B v st → Present true B v st → d < ways_of st → st' ≡ below st d → Underway B (gone_on v) st' × (standing_of B (gone_on v) st' ≡ below (standing_of B v st) d)
    by no_run U p l e = absurd p
    by (in_run r) U p l e =
        let W' : Within B (gone_on v) (record { tree = subtree r.tree d; units = r.units; denominator = r.denominator }) = record {
          units_are = p.units_are;
          lawful = lawful_subtree (first_row_of v (v.stage + 1) - first_row_of v v.stage) d r.tree p.lawful l;
          denominator_is = p.denominator_is;
          none_ahead = p.none_ahead;
        } in (
          record {
            loaded = record { rising = U.loaded.rising; accepted = U.loaded.accepted; shares_are = U.loaded.shares_are };
            flags = U.flags;
            present = subst (λ b. Present b B (gone_on v) st') (sym has) (subst (λ (z : Standing). Present true B (gone_on v) z) (sym e) W');
            unmoved = λ q. absurd (false≢true (sym q));
          },
          ap₂ (λ (b : Bool) (z : Standing). standing_by b B (gone_on v) z) has e
              ∙ ap (λ (t : Tree Sample). in_run (run_over B v t)) (bind_down (λ w. series B (ahead v (v.stage + 1)) (joined (part_at v v.stage) (so_far v) w)) d r.tree l)
              ∙ sym (ap (λ b. below (standing_by b B v (in_run r)) d) has),
        )

-- ---- share
module _ (B : Plans) (law : SoundPlans B) (v : Tables) where
  module _ (k j : ℕ) (s : Seated v.bounds k j) where
    -- the numerator of a unit whose part is behind or ahead
    abbrev aside : ℕ
    aside = cond (ltb j v.stage) (cond (so_far v k) (denominators B (all_parts v) k) 0) (cond (is_chosen v j) (numerators B (all_parts v) k) 0)

    pub share_aside : (st : Standing) → Underway B v st → (j ≡ v.stage → ⊥)
        → Shared (standing_of B v st) k (Ok (fraction (cond (ltb j v.stage) (cond (so_far v k) (denominators B (all_parts v) k) 0) (cond (is_chosen v j) (numerators B (all_parts v) k) 0)) (denominators B (all_parts v) k)))
    share_aside st U other = by (cases_lt (v.stage + 1) (length v.bounds)) st U
      where
        behind : j < v.stage → (t : Tree Sample) → Average (X k) (cond (so_far v k) (denominators B (all_parts v) k) 0) (denominators B (all_parts v) k) t → Average (X k) aside (denominators B (all_parts v) k) t
        behind l t a = subst (λ b. Average (X k) (cond b (cond (so_far v k) (denominators B (all_parts v) k) 0) (cond (is_chosen v j) (numerators B (all_parts v) k) 0)) (denominators B (all_parts v) k) t) (sym (lt-ltb j v.stage l)) a

        later : v.stage ≤ j → (t : Tree Sample) → Average (X k) (cond (is_chosen v j) (numerators B (all_parts v) k) 0) (denominators B (all_parts v) k) t → Average (X k) aside (denominators B (all_parts v) k) t
        later l t a = subst (λ b. Average (X k) (cond b (cond (so_far v k) (denominators B (all_parts v) k) 0) (cond (is_chosen v j) (numerators B (all_parts v) k) 0)) (denominators B (all_parts v) k) t) (sym (le-ltb j v.stage l)) a

        now : v.stage + 1 < length v.bounds → (r : Run) (U : Underway B v (in_run r)) → Within B v r → (j < v.stage) ⊎ (v.stage ≤ j)
            → Average (X k) aside (denominators B (all_parts v) k) (resumed B (part_at v v.stage) (ahead v (v.stage + 1)) (so_far v) r.tree)
        now more r U W (inl l) = behind l _ (share_behind B v U.loaded law more r W k j s (denominators B (all_parts v) k) l)
        now more r U W (inr l) = later l _ (share_ahead B v U.loaded law more r W k j s (different l other))
          where
            different : v.stage ≤ j → (j ≡ v.stage → ⊥) → v.stage < j
            different l ne = omega arith

        by : (v.stage + 1 < length v.bounds) ⊎ (length v.bounds ≤ v.stage + 1) → (st : Standing) → Underway B v st → Shared (standing_of B v st) k (Ok (fraction aside (denominators B (all_parts v) k)))
        by (inl more) no_run U = absurd (subst (λ b. Present b B v no_run) (lt-ltb (v.stage + 1) (length v.bounds) more) U.present)
        by (inl more) (in_run r) U =
            subst (λ b. Shared (standing_by b B v (in_run r)) k (Ok (fraction aside (denominators B (all_parts v) k)))) (sym (lt-ltb (v.stage + 1) (length v.bounds) more)) (
              seat_row v U.loaded.rising k j s,
              (refl, now more r U (subst (λ b. Present b B v (in_run r)) (lt-ltb (v.stage + 1) (length v.bounds) more) U.present) (cases_lt j v.stage)),
            )
        by (inr done) st U =
            subst (λ b. Shared (standing_by b B v st) k (Ok (fraction aside (denominators B (all_parts v) k)))) (sym (le-ltb (v.stage + 1) (length v.bounds) done))
            (seat_row v U.loaded.rising k j s, (refl, behind (omega (arith, s.place)) _ (share_over B v U.loaded k (denominators B (all_parts v) k))))

    -- a unit of the present part has the share that the design gives it there
    pub share_here : (st : Standing) (r : Result Fraction Fault) → Underway B v st → j ≡ v.stage → Shared st (k - first_row_of v j) r → Shared (standing_of B v st) k r
    share_here st r U e h =
        let more : v.stage + 1 < length v.bounds = subst (λ i. i + 1 < length v.bounds) e s.place in
        by more st r U (subst (λ b. Present b B v st) (lt-ltb (v.stage + 1) (length v.bounds) more) U.present) h
      where
        inside : (more : v.stage + 1 < length v.bounds) (r : Run) → Within B v r → k - first_row_of v j < r.units
        inside more r W =
            let a : first_row_of v j ≡ first_row_of v v.stage = ap (first_row_of v) e in
            let b : first_row_of v (j + 1) ≡ first_row_of v (v.stage + 1) = ap (λ i. first_row_of v (i + 1)) e in
            omega (arith, W.units_are, s.low, s.high, a, b)

        by : (more : v.stage + 1 < length v.bounds) (st : Standing) (r : Result Fraction Fault) → Underway B v st → Present true B v st → Shared st (k - first_row_of v j) r → Shared (standing_of B v st) k r
        by more no_run r U p h = absurd p
        by more (in_run q) (Err f) U p h = absurd (omega (arith, inside more q p, h.0))
        by more (in_run q) (Ok a) U p h =
            subst (λ b. Shared (standing_by b B v (in_run q)) k (Ok a)) (sym (lt-ltb (v.stage + 1) (length v.bounds) more))
            (seat_row v U.loaded.rising k j s, (den a h.1.0, share_present B v U.loaded law more q p k j s a.0 e h.1.1))
          where
            den : (a : Fraction) → a.1 ≡ q.denominator (k - first_row_of v j) → a.1 ≡ denominators B (all_parts v) k
            den a is =
                is ∙ p.denominator_is (k - first_row_of v j) ∙ ap (λ i. denominator_of (plan_for B (part_at v i)) (k - first_row_of v j)) (sym e)
                ∙ sym (seat_unit v U.loaded.rising k j s (λ p. denominator_of (plan_for B p)))

  -- as long as the design has not gone on, that is the prescribed one
  pub share_unmoved : (k j : ℕ) (s : Seated v.bounds k j) (st : Standing) → length v.chosen + 1 ≡ length v.bounds → Underway B v st → j ≡ v.stage → v.moved ≡ false
      → Shared (standing_of B v st) k
      (Ok (fraction (cond (ltb j v.stage) (cond (so_far v k) (denominators B (all_parts v) k) 0) (cond (is_chosen v j) (numerators B (all_parts v) k) 0)) (denominators B (all_parts v) k)))
  share_unmoved k j s st all U e still =
      subst (λ (a : Fraction). Shared (standing_of B v st) k (Ok a)) (sym is)
      (share_here k j s st (Ok (share_of (plan_for B (part_at v j)) (k - first_row_of v j))) U e
      (by (plan_for B (part_at v j)) st (law (part_at v j).rows (part_at v j).sample) (subst (λ i. Begins (plan_for B (part_at v i)) st) (sym e) now.0)))
    where
      now : Begins (plan_for B (part_at v v.stage)) st × (is_chosen v v.stage ≡ true)
      now = U.unmoved still (omega (arith, s.place, e, all))

      inside : k - first_row_of v j < length (part_at v j).rows
      inside = omega (arith, rows_of v U.loaded.rising j s.place, s.low, s.high)

      by : (a : Plan) (st : Standing) → SoundPlan (part_at v j).rows a → Begins a st → Shared st (k - first_row_of v j) (Ok (share_of a (k - first_row_of v j)))
      by (refuses f) st p b = absurd b
      by (accepts num run) st p b =
          subst (λ (z : Standing). Shared z (k - first_row_of v j) (Ok (share_of (accepts num run) (k - first_row_of v j)))) (sym b)
          (omega (arith, inside, p.units_listed), (refl, p.fair (k - first_row_of v j) inside))

      is : fraction (cond (ltb j v.stage) (cond (so_far v k) (denominators B (all_parts v) k) 0) (cond (is_chosen v j) (numerators B (all_parts v) k) 0)) (denominators B (all_parts v) k)
          ≡ share_of (plan_for B (part_at v j)) (k - first_row_of v j)
      is =
          ap₂ (λ (b c : Bool). fraction (cond b (cond (so_far v k) (denominators B (all_parts v) k) 0) (cond c (numerators B (all_parts v) k) 0)) (denominators B (all_parts v) k))
          (le-ltb j v.stage (omega (arith, e))) (ap (is_chosen v) e ∙ now.1)
          ∙ ap₂ fraction (seat_unit v U.loaded.rising k j s (λ q. numerator_of (plan_for B q))) (seat_unit v U.loaded.rising k j s (λ q. denominator_of (plan_for B q)))

  -- ---- every run that stands
  flagged : length v.taken ≡ length v.rows → (k : ℕ) → T (so_far v k) → k < length v.rows
  flagged all k y = by (cases_lt k (length v.rows))
    where
      by : (k < length v.rows) ⊎ (length v.rows ≤ k) → k < length v.rows
      by (inl l) = l
      by (inr l) = absurd (subst T (get_or_past v.taken k false (omega (arith, all))) y)

  lawful_now : (v.stage + 1 < length v.bounds) → (r : Run) → Underway B v (in_run r) → Within B v r
      → Lawful (length v.rows) (resumed B (part_at v v.stage) (ahead v (v.stage + 1)) (so_far v) r.tree)
  lawful_now more r U W =
      let after = apart_after v U.loaded.rising v.stage more in
      lawful_bind (first_row_of v (v.stage + 1) - first_row_of v v.stage) (length v.rows) r.tree (λ w. series B (ahead v (v.stage + 1)) (joined (part_at v v.stage) (so_far v) w)) W.lawful
      (λ w g. lawful_apart B law (ahead v (v.stage + 1)) (first_row_of v v.stage + length (part_at v v.stage).rows) (length v.rows)
      (apart_chosen (is_chosen v) (v.stage + 1) (first_row_of v v.stage + length (part_at v v.stage).rows) (drop (v.stage + 1) (all_parts v)) (length v.rows) after)
      (accepted_chosen B (is_chosen v) (v.stage + 1) (drop (v.stage + 1) (all_parts v)) (accepted_at B v U.loaded v.stage more).1)
      (joined (part_at v v.stage) (so_far v) w)
      (joined_below (part_at v v.stage) (so_far v) w (length v.rows) (apart_le (first_row_of v v.stage + length (part_at v v.stage).rows) (drop (v.stage + 1) (all_parts v)) (length v.rows) after) (flagged U.flags)))

  pub exact_now : (st : Standing) → Underway B v st → SoundStanding st → SoundStanding (standing_of B v st)
  exact_now st U sound = by (cases_lt (v.stage + 1) (length v.bounds)) st U sound
    where
      dens : (st : Standing) → Underway B v st → (k : ℕ) → k < length v.rows → (1 ≤ denominators B (all_parts v) k) × (denominators B (all_parts v) k ≤ 10 ^ 15)
      dens st U k l =
          let p = prescribed_parts B law (all_parts v) 0 (length v.rows) k (chain v U.loaded.rising) (omega arith) l U.loaded.accepted in
          (omega (arith, p.0, p.1), p.2)

      exact : (st : Standing) → Underway B v st → SoundStanding st → (k : ℕ) → k < length v.rows → (a : Fraction) × Shared (standing_of B v st) k (Ok a)
      exact st U sound k l = let g = seat_of v.bounds (length v.rows) k U.loaded.rising l in on g.0 g.1 (ℕ_discrete g.0 v.stage)
        where
          here : (j : ℕ) → Seated v.bounds k j → j ≡ v.stage → (st : Standing) → Underway B v st → SoundStanding st → Present true B v st → (a : Fraction) × Shared (standing_of B v st) k (Ok a)
          here j s e no_run U sound p = absurd p
          here j s e (in_run r) U sound p =
              let inside : k - first_row_of v j < r.units = omega (arith, p.units_are, s.low, s.high, ap (first_row_of v) e, ap (λ i. first_row_of v (i + 1)) e) in
              let x = sound.exact (k - first_row_of v j) inside in (
                fraction x.0 (r.denominator (k - first_row_of v j)),
                share_here k j s (in_run r) (Ok (fraction x.0 (r.denominator (k - first_row_of v j)))) U e (inside, (refl, x.1)),
              )

          on : (j : ℕ) → Seated v.bounds k j → Dec (j ≡ v.stage) → (a : Fraction) × Shared (standing_of B v st) k (Ok a)
          on j s (yes e) = here j s e st U sound (subst (λ b. Present b B v st) (lt-ltb (v.stage + 1) (length v.bounds) (subst (λ i. i + 1 < length v.bounds) e s.place)) U.present)
          on j s (no ne) = (_, share_aside k j s st U ne)

      by : (v.stage + 1 < length v.bounds) ⊎ (length v.bounds ≤ v.stage + 1) → (st : Standing) → Underway B v st → SoundStanding st → SoundStanding (standing_of B v st)
      by (inl more) no_run U sound = absurd (subst (λ b. Present b B v no_run) (lt-ltb (v.stage + 1) (length v.bounds) more) U.present)
      by (inl more) (in_run r) U sound =
          let has = lt-ltb (v.stage + 1) (length v.bounds) more in
          let W : Within B v r = (subst (λ b. Present b B v (in_run r)) has U.present) in
          subst (λ b. SoundStanding (standing_by b B v (in_run r))) (sym has) (record {
            lawful = lawful_now more r U W;
            denominators = dens (in_run r) U;
            exact = λ k l. let x = subst (λ b. (a : Fraction) × Shared (standing_by b B v (in_run r)) k (Ok a)) has (exact (in_run r) U sound k l) in (x.0.0, x.1.1.1);
          })
      by (inr done) st U sound =
          let has = le-ltb (v.stage + 1) (length v.bounds) done in
          subst (λ b. SoundStanding (standing_by b B v st)) (sym has) (record {
            lawful = flagged U.flags;
            denominators = dens st U;
            exact = λ k l. let x = subst (λ b. (a : Fraction) × Shared (standing_by b B v st) k (Ok a)) has (exact st U sound k l) in (x.0.0, x.1.1.1);
          })
