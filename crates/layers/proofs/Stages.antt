-- The calls of two-stage drawing under way, by its parts.
use Rattle.std.proofs.Common.{◌≡◌, ℕ, suc, ◌+◌, ◌*◌, ◌^◌, ◌<◌, ◌≤◌, Bool, true, false, cond, List, [], ◌∷◌, length, Ok, sym, refl, ap, ◌∙◌, subst, ap₂, mul-pos, arith}
use Rattle.outcomes.specs.Trees.{Tree, finished, branching, Sample, weight, inclusion, Lawful, ways, subtree}
use Rattle.outcomes.proofs.Trees.{lawful_ways}
use Rattle.design.specs.Design.{Run, Standing, no_run, in_run, Shared, Fair, SoundRun, SoundStanding, ways_of, below}
use Rattle.parts.specs.Parts.{Part, place_of}
use Rattle.design.specs.Plans.{Plans, nothing, outcome, SoundPlans}
use Rattle.design.specs.Fractions.{fraction}
use Rattle.parts.specs.Series.{series, chosen, numerators, denominators}
use Rattle.parts.proofs.Chains.{Inside}
use Rattle.parts.specs.Seats.{Seated}
use Rattle.parts.specs.Copying.{Over, outcome_of}
use Rattle.parts.specs.Running.{Tables, all_parts, part_at, is_chosen, so_far, ahead, run_over, run_from, standing_by, standing_of, has_present, Loaded, resumed}
use Rattle.parts.proofs.Cuts.{chain_inside}
use Rattle.parts.proofs.Places.{chain_place}
use Rattle.parts.proofs.Seats.{chain, apart, seat_place}
use Rattle.parts.proofs.Series.{fair_stages}
use Rattle.parts.proofs.Lawfuls.{prescribed_parts}
use Rattle.parts.proofs.Copying.{finished_is}
use Rattle.layers.specs.TwoStage.{stages}
use Rattle.layers.specs.Stages.{stages_over, in_first, in_second, Fitting, Fits}
use Rattle.layers.proofs.TwoStagePlans.{lawful_stages}

-- ---- ways and step
pub ways_first : (B : Plans) (v : Tables) (st : Standing) → 0 < ways_of st → ways_of (in_first B v st) ≡ ways_of st
ways_first B v no_run l = refl
ways_first B v (in_run r) l = by r.tree l
  where
    by : (t : Tree Sample) → 0 < ways t → ways (stages B (all_parts v) t) ≡ ways t
    by (finished u) l = absurd (omega arith)
    by (branching m sub) l = refl

pub below_first : (B : Plans) (v : Tables) (st : Standing) (d : ℕ) → 0 < ways_of st → in_first B v (below st d) ≡ below (in_first B v st) d
below_first B v no_run d l = refl
below_first B v (in_run r) d l = ap (λ (t : Tree Sample). in_run (stages_over B v r t)) (by r.tree l)
  where
    by : (t : Tree Sample) → 0 < ways t → stages B (all_parts v) (subtree t d) ≡ subtree (stages B (all_parts v) t) d
    by (finished u) l = absurd (omega arith)
    by (branching m sub) l = refl

pub ways_second : (B : Plans) (v : Tables) (st su : Standing) → Fits B v st → ways_of (in_second B v st su) ≡ ways_of su
ways_second B v no_run su f = absurd f
ways_second B v (in_run r) no_run f = refl
ways_second B v (in_run r) (in_run s) f = refl

pub below_second : (B : Plans) (v : Tables) (st su : Standing) (d : ℕ) → in_second B v st (below su d) ≡ below (in_second B v st su) d
below_second B v no_run su d = refl
below_second B v (in_run r) no_run d = refl
below_second B v (in_run r) (in_run s) d = refl

-- the first design goes on: its units and denominators stay
pub fits_below : (B : Plans) (v : Tables) (st : Standing) (d : ℕ) → d < ways_of st → Fits B v st → Fits B v (below st d)
fits_below B v no_run d l f = f
fits_below B v (in_run r) d l f = record { units_are = f.units_are; lawful = by r.tree l f.lawful; small = f.small }
  where
    by : (t : Tree Sample) → d < ways t → Lawful (length (all_parts v)) t → Lawful (length (all_parts v)) (subtree t d)
    by (finished u) l h = h
    by (branching m sub) l h = h.2 d l

-- ---- from the first stage to the second
chosen_same : (c e : Sample) (j : ℕ) (ps : List Part) → ((i : ℕ) → i < j + length ps → c i ≡ e i) → chosen c j ps ≡ chosen e j ps
chosen_same c e j [] h = refl
chosen_same c e j (p ∷ ps) h =
    ap₂ (λ (b : Bool) (qs : List Part). cond b (p ∷ qs) qs) (h j (omega arith)) (chosen_same c e (suc j) ps (λ i l. h i (omega arith)))

pub fits_over : (B : Plans) (v : Tables) (st : Standing) → Fits B v st → ways_of st ≡ 0 → Over st (length (all_parts v))
fits_over B v no_run f e = f
fits_over B v (in_run r) f e = (f.units_are, lawful_ways (length (all_parts v)) r.tree f.lawful, e)

-- the run of the second design on the clusters that the first has taken is what stood before
pub drawn : (B : Plans) (v w : Tables) (st : Standing) → Fits B v st → ways_of st ≡ 0 → all_parts w ≡ all_parts v → length w.rows ≡ length v.rows
    → ((j : ℕ) → j < length (all_parts v) → is_chosen w j ≡ outcome_of st j) → in_second B w st (run_from B w 0 nothing) ≡ in_first B v st
drawn B v w no_run f e p n c = absurd f
drawn B v w (in_run r) f e p n c =
    ap₂ (λ (ps : List Part) (rows : ℕ). in_run (record {
      tree = series B (chosen (is_chosen w) 0 ps) nothing;
      units = rows;
      denominator = λ k. r.denominator (place_of 0 ps k) * denominators B ps k;
    })) p n
    ∙ ap (λ (t : Tree Sample). in_run (stages_over B v r t)) (same ∙ ap (stages B (all_parts v)) (sym (finished_is r.tree (lawful_ways (length (all_parts v)) r.tree f.lawful) e)))
  where
    same : series B (chosen (is_chosen w) 0 (all_parts v)) nothing ≡ stages B (all_parts v) (finished (outcome r.tree))
    same = ap (λ (ps : List Part). series B ps nothing) (chosen_same (is_chosen w) (outcome r.tree) 0 (all_parts v) (λ i l. c i (omega arith)))

-- ---- share
scaled : (c x y w i : ℕ) → x * w ≡ y * i → c * x * w ≡ c * y * i
scaled c x y w i h = omega (arith, ap (λ z. c * z) h)

module _ (B : Plans) (law : SoundPlans B) (v : Tables) (L : Loaded B v) where
  abbrev ps : List Part
  ps = all_parts v

  inside : (k : ℕ) → k < length v.rows → Inside (all_parts v) k
  inside k l = chain_inside 0 (all_parts v) (length v.rows) k (chain v L.rising) (omega arith) l

  -- the product of a cluster's share in the first stage and a unit's in its cluster
  fair_first : (r : Run) → Fitting B v r → (k num : ℕ) → k < length v.rows → Fair r (place_of 0 (all_parts v) k) num
      → Fair (stages_over B v r (stages B (all_parts v) r.tree)) k (num * numerators B (all_parts v) k)
  fair_first r f k num l h =
      fair_stages B law (all_parts v) 0 (length v.rows) k num (r.denominator (place_of 0 (all_parts v) k)) r.tree (lawful_ways (length (all_parts v)) r.tree f.lawful)
      (apart v L.rising) L.accepted (inside k l) h

  pub shared_first : (st : Standing) → Fits B v st → (k j : ℕ) → k < length v.rows → Seated v.bounds k j → (num den : ℕ) → Shared st j (Ok (fraction num den))
      → Shared (in_first B v st) k (Ok (fraction (num * numerators B (all_parts v) k) (den * denominators B (all_parts v) k)))
  shared_first no_run f k j l s num den h = absurd h
  shared_first (in_run r) f k j l s num den h =
      let at = seat_place v L.rising k j s in (
        l,
        (
          ap (λ d. d * denominators B (all_parts v) k) (h.1.0 ∙ ap r.denominator (sym at)),
          fair_first r f k num l (subst (λ i. Fair r i num) (sym at) h.1.1),
        ),
      )

  -- ---- every run that stands
  dens : (r : Run) → SoundRun r → Fitting B v r → (k : ℕ) → k < length v.rows
      → (1 ≤ r.denominator (place_of 0 (all_parts v) k) * denominators B (all_parts v) k) × (r.denominator (place_of 0 (all_parts v) k) * denominators B (all_parts v) k ≤ 10 ^ 15)
  dens r s f k l =
      let at : place_of 0 (all_parts v) k < r.units = omega (arith, f.units_are, chain_place 0 0 (all_parts v) (length v.rows) k (chain v L.rising) (omega arith) l) in
      let p = prescribed_parts B law (all_parts v) 0 (length v.rows) k (chain v L.rising) (omega arith) l L.accepted in
      (mul-pos (s.denominators (place_of 0 (all_parts v) k) at).0 (omega (arith, p.0, p.1)), f.small k l)

  pub exact_first : (st : Standing) → Fits B v st → SoundStanding st → SoundStanding (in_first B v st)
  exact_first no_run f s = absurd f
  exact_first (in_run r) f s = record {
    lawful = lawful_stages B law (all_parts v) (length v.rows) (length (all_parts v)) r.tree f.lawful (apart v L.rising) L.accepted;
    denominators = dens r s f;
    exact = λ k l.
        let at : place_of 0 (all_parts v) k < r.units = omega (arith, f.units_are, chain_place 0 0 (all_parts v) (length v.rows) k (chain v L.rising) (omega arith) l) in
        let x = s.exact (place_of 0 (all_parts v) k) at in
        (x.0 * numerators B (all_parts v) k, fair_first r f k x.0 l x.1);
  }

  -- a run of the series is one over the list
  shared_over : (st : Standing) → Fits B v st → (su : Standing) → (b : Bool) (x : Standing) → su ≡ standing_by b B v x → (k j : ℕ) → Seated v.bounds k j → (num den : ℕ) → Shared st j (Ok (fraction num den))
      → (p q : ℕ) → Shared su k (Ok (fraction p q)) → Shared (in_second B v st su) k (Ok (fraction (den * p) (den * q)))
  shared_over no_run f su b x e k j s num den h p q g = absurd f
  shared_over (in_run r) f su b x e k j s num den h p q g =
      let at = seat_place v L.rising k j s in
      subst (λ (z : Standing). Shared (in_second B v (in_run r) z) k (Ok (fraction (den * p) (den * q)))) (sym e) (by b x (subst (λ (z : Standing). Shared z k (Ok (fraction p q))) e g))
    where
      is : den ≡ r.denominator (place_of 0 (all_parts v) k)
      is = h.1.0 ∙ ap r.denominator (sym (seat_place v L.rising k j s))

      run : (t : Tree Sample) → Shared (in_run (run_over B v t)) k (Ok (fraction p q)) → Shared (in_run (stages_over B v r t)) k (Ok (fraction (den * p) (den * q)))
      run t g = (
        g.0,
        (
          ap₂ (λ (c d : ℕ). c * d) is g.1.0,
          scaled den p (denominators B (all_parts v) k) (weight t) (inclusion k t) g.1.1 ∙ ap (λ c. c * denominators B (all_parts v) k * inclusion k t) is,
        ),
      )

      by : (b : Bool) (x : Standing) → Shared (standing_by b B v x) k (Ok (fraction p q)) → Shared (in_second B v (in_run r) (standing_by b B v x)) k (Ok (fraction (den * p) (den * q)))
      by true no_run g = absurd g
      by true (in_run y) g = run (resumed B (part_at v v.stage) (ahead v (v.stage + 1)) (so_far v) y.tree) g
      by false x g = run (finished (so_far v)) g

  pub shared_second : (st su : Standing) → Fits B v st → (k j : ℕ) → Seated v.bounds k j → (num den : ℕ) → Shared st j (Ok (fraction num den)) → (p q : ℕ) → Shared (standing_of B v su) k (Ok (fraction p q))
      → Shared (in_second B v st (standing_of B v su)) k (Ok (fraction (den * p) (den * q)))
  shared_second st su f k j s num den h p q g = shared_over st f (standing_of B v su) (has_present v) su refl k j s num den h p q g

  pub exact_second : (st su : Standing) → Fits B v st → SoundStanding st → SoundStanding (standing_of B v su) → SoundStanding (in_second B v st (standing_of B v su))
  exact_second no_run su f s t = absurd f
  exact_second (in_run r) su f s t = by (has_present v) su t
    where
      run : (u : Tree Sample) → SoundRun (run_over B v u) → SoundRun (stages_over B v r u)
      run u y = record {
        lawful = y.lawful;
        denominators = dens r s f;
        exact = λ k l.
            let x = y.exact k l in
            let c = r.denominator (place_of 0 (all_parts v) k) in
            (c * x.0, scaled c x.0 (denominators B (all_parts v) k) (weight u) (inclusion k u) x.1);
      }

      by : (b : Bool) (x : Standing) → SoundStanding (standing_by b B v x) → SoundStanding (in_second B v (in_run r) (standing_by b B v x))
      by true no_run y = tt
      by true (in_run q) y = run (resumed B (part_at v v.stage) (ahead v (v.stage + 1)) (so_far v) q.tree) y
      by false x y = run (finished (so_far v)) y
