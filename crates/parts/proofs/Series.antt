-- The trees of parts one after another: the share of each unit.
use Rattle.std.proofs.Common.{◌≡◌, ℕ, suc, ◌+◌, ◌-◌, ◌*◌, ◌<◌, ◌≤◌, Bool, true, false, cond, List, [], ◌∷◌, length, refl, ap, ◌∙◌, subst, arith}
use Rattle.outcomes.specs.Trees.{Tree, bind, weight, expect, Sample, Average, HasWays, Every, Lawful}
use Rattle.outcomes.proofs.Trees.{expect_every, expect_constant, expect_same, expect_scale, every_map, every_all, lawful_ways}
use Rattle.outcomes.proofs.Sequences.{every_bind, first_kept, second_kept, sequence_average}
use Rattle.design.specs.Design.{Plan, refuses, accepts, SoundPlan}
use Rattle.design.specs.declared.row.Row.{Row}
use Rattle.parts.specs.Parts.{Part, bounds, parts, holds, place_of}
use Rattle.design.specs.Plans.{Plans, nothing, tree_of, numerator_of, denominator_of, SoundPlans}
use Rattle.parts.specs.Series.{plan_for, joined, series, chosen, numerators, denominators}
use Rattle.parts.specs.Running.{resumed}
use Rattle.parts.specs.Bounds.{Accepted, AllAccepted}
use Rattle.parts.proofs.Chains.{Chain, Apart, Unless, Inside, given_parts}
use Rattle.parts.specs.Laws.{SeriesFair, StagesFair}
use Rattle.parts.proofs.Holds.{holds_before, holds_is, joined_in, joined_out}
use Rattle.parts.proofs.Cuts.{rising_bounds, chain_cut, chain_apart, chain_inside}

-- whether the outcome holds k
abbrev pub X : ℕ → Sample → ℕ
X k u = cond (u k) 1 0

-- ---- what a plan that accepts has
pub lawful_of : (list : List Row) (a : Plan) → SoundPlan list a → Accepted a → Lawful (length list) (tree_of a)
lawful_of list (refuses f) s ok = absurd ok
lawful_of list (accepts num run) s ok = s.lawful

pub fair_of : (list : List Row) (a : Plan) → SoundPlan list a → Accepted a → (k : ℕ) → k < length list
    → Average (X k) (numerator_of a k) (denominator_of a k) (tree_of a)
fair_of list (refuses f) s ok k l = absurd ok
fair_of list (accepts num run) s ok k l = s.fair k l

-- ---- chosen parts
apart_less : (a b : ℕ) (ps : List Part) (e : ℕ) → a ≤ b → Apart b ps e → Apart a ps e
apart_less a b [] e l h = omega (arith, h)
apart_less a b (p ∷ ps) e l h = (omega (arith, h.0), h.1, h.2)

pub apart_chosen : (c : Sample) (j a : ℕ) (ps : List Part) (e : ℕ) → Apart a ps e → Apart a (chosen c j ps) e
apart_chosen c j a [] e h = h
apart_chosen c j a (p ∷ ps) e h = by (c j) (apart_chosen c (suc j) (p.at + length p.rows) ps e h.2)
  where
    by : (b : Bool) → Apart (p.at + length p.rows) (chosen c (suc j) ps) e → Apart a (cond b (p ∷ chosen c (suc j) ps) (chosen c (suc j) ps)) e
    by true r = (h.0, h.1, r)
    by false r = apart_less a (p.at + length p.rows) (chosen c (suc j) ps) e (omega (arith, h.0)) r

pub accepted_chosen : (B : Plans) (c : Sample) (j : ℕ) (ps : List Part) → AllAccepted B ps → AllAccepted B (chosen c j ps)
accepted_chosen B c j [] ok = tt
accepted_chosen B c j (p ∷ ps) ok = by (c j) (accepted_chosen B c (suc j) ps ok.1)
  where
    by : (b : Bool) → AllAccepted B (chosen c (suc j) ps) → AllAccepted B (cond b (p ∷ chosen c (suc j) ps) (chosen c (suc j) ps))
    by true r = (ok.0, r)
    by false r = r

-- a number that never shows has the average 0
never_average : (k den : ℕ) (t : Tree Sample) → Every (λ w. w k ≡ false) t → Average (X k) 0 den t
never_average k den t h =
    omega (arith, ap (λ x. den * x) (expect_every (X k) (λ w. 0) t (every_map t (λ w e. ap (λ b. cond b 1 0) e) h) ∙ expect_constant 0 t))

module _ (B : Plans) where
  kept : (ps : List Part) (a e k : ℕ) → Apart a ps e → k < a → (u : Sample) → Every (λ w. w k ≡ u k) (series B ps u)
  kept [] a e k c l u = refl
  kept (p ∷ ps) a e k c l u =
      (every_bind (λ w. w k ≡ u k) (tree_of (plan_for B p)) (λ v. series B ps (joined p u v))).1
      (every_all (tree_of (plan_for B p)) (λ v. every_map (series B ps (joined p u v)) (λ w h. h ∙ joined_out p u v k (holds_before p k (omega (arith, c.0))))
      (kept ps (p.at + length p.rows) e k c.2 (omega (arith, c.0)) (joined p u v))))

  fair_in : (p : Part) (ps : List Part) (e k num den : ℕ) → Apart (p.at + length p.rows) ps e → p.at ≤ k → k < p.at + length p.rows
      → (u : Sample) (t : Tree Sample) → HasWays t → Average (X (k - p.at)) num den t → Average (X k) num den (resumed B p ps u t)
  fair_in p ps e k num den c a l u t s h =
      first_kept (X k) (X (k - p.at)) num den t (λ v. series B ps (joined p u v)) s
      (every_all t (λ v. every_map (series B ps (joined p u v)) (λ w g. ap (λ b. cond b 1 0) (g ∙ joined_in p u v k a l))
      (kept ps (p.at + length p.rows) e k c l (joined p u v)))) h

  module _ (law : SoundPlans B) (c : Sample) where
    -- once the parts c are chosen, the share of k is that in its part, or 0
    pub fair_given : (ps : List Part) (j a e k : ℕ) → Apart a ps e → AllAccepted B ps → Inside ps k → (u : Sample) → u k ≡ false
        → Average (X k) (given_parts B c j ps k) (denominators B ps k) (series B (chosen c j ps) u)
    fair_given [] j a e k h ok i u z = absurd i
    fair_given (p ∷ ps) j a e k h ok i u z =
        by (holds p k) refl (c j) i (λ n v y. fair_given ps (suc j) (p.at + length p.rows) e k h.2 ok.1 n v y)
      where
        t : Tree Sample
        t = tree_of (plan_for B p)

        rest : List Part
        rest = chosen c (suc j) ps

        by : (b : Bool) → holds p k ≡ b → (d : Bool) → Unless b (Inside ps k)
            → (Inside ps k → (v : Sample) → v k ≡ false → Average (X k) (given_parts B c (suc j) ps k) (denominators B ps k) (series B (chosen c (suc j) ps) v))
            → Average (X k) (cond b (cond d (numerator_of (plan_for B p) (k - p.at)) 0) (given_parts B c (suc j) ps k)) (cond b (denominator_of (plan_for B p) (k - p.at)) (denominators B ps k))
            (series B (cond d (p ∷ chosen c (suc j) ps) (chosen c (suc j) ps)) u)
        by true is true n ih =
            let w = holds_is p k is in
            fair_in p (chosen c (suc j) ps) e k (numerator_of (plan_for B p) (k - p.at)) (denominator_of (plan_for B p) (k - p.at))
            (apart_chosen c (suc j) (p.at + length p.rows) ps e h.2) w.0 w.1 u (tree_of (plan_for B p))
            (lawful_ways (length p.rows) (tree_of (plan_for B p)) (lawful_of p.rows (plan_for B p) (law p.rows p.sample) ok.0))
            (fair_of p.rows (plan_for B p) (law p.rows p.sample) ok.0 (k - p.at) (omega (arith, w.0, w.1)))
        by true is false n ih =
            let w = holds_is p k is in
            never_average k (denominator_of (plan_for B p) (k - p.at)) (series B (chosen c (suc j) ps) u)
            (every_map (series B (chosen c (suc j) ps) u) (λ v g. g ∙ z)
            (kept (chosen c (suc j) ps) (p.at + length p.rows) e k (apart_chosen c (suc j) (p.at + length p.rows) ps e h.2) w.1 u))
        by false is true n ih =
            second_kept (X k) (given_parts B c (suc j) ps k) (denominators B ps k) (tree_of (plan_for B p)) (λ v. series B (chosen c (suc j) ps) (joined p u v))
            (lawful_ways (length p.rows) (tree_of (plan_for B p)) (lawful_of p.rows (plan_for B p) (law p.rows p.sample) ok.0))
            (every_all (tree_of (plan_for B p)) (λ v. ih n (joined p u v) (joined_out p u v k is ∙ z)))
        by false is false n ih = ih n u z

  pub given_is : (c : Sample) (j : ℕ) (ps : List Part) (k : ℕ) → given_parts B c j ps k ≡ numerators B ps k * X (place_of j ps k) c
  given_is c j [] k = omega arith
  given_is c j (p ∷ ps) k = by (holds p k) (c j) refl (given_is c (suc j) ps k)
    where
      by : (b d : Bool) → c j ≡ d → given_parts B c (suc j) ps k ≡ numerators B ps k * X (place_of (suc j) ps k) c
          → cond b (cond d (numerator_of (plan_for B p) (k - p.at)) 0) (given_parts B c (suc j) ps k)
          ≡ cond b (numerator_of (plan_for B p) (k - p.at)) (numerators B ps k) * X (cond b j (place_of (suc j) ps k)) c
      by true true e h = omega (arith, ap (λ z. numerator_of (plan_for B p) (k - p.at) * cond z 1 0) e)
      by true false e h = omega (arith, ap (λ z. numerator_of (plan_for B p) (k - p.at) * cond z 1 0) e)
      by false d e h = h

  -- ---- the share of a unit is that of its part times that of the unit within it
  pub fair_stages : (law : SoundPlans B) (ps : List Part) (a e k num den : ℕ) (t : Tree Sample) → HasWays t → Apart a ps e → AllAccepted B ps → Inside ps k
      → Average (X (place_of 0 ps k)) num den t
      → Average (X k) (num * numerators B ps k) (den * denominators B ps k) (bind t (λ c. series B (chosen c 0 ps) nothing))
  fair_stages law ps a e k num den t s h ok i first =
      let j : ℕ = place_of 0 ps k in
      let Y : Sample → ℕ = λ c. given_parts B c 0 ps k in
      let scaled : expect Y t ≡ numerators B ps k * expect (X j) t =
      expect_same Y (λ c. numerators B ps k * X j c) t (λ c. given_is c 0 ps k) ∙ expect_scale (numerators B ps k) (X j) t in
      sequence_average (X k) Y (num * numerators B ps k) den (denominators B ps k) t (λ c. series B (chosen c 0 ps) nothing) s
      (every_all t (λ c. fair_given law c ps 0 a e k h ok i nothing refl))
      (omega (arith, ap (λ x. numerators B ps k * x) first, ap (λ x. den * x) scaled))

  -- ---- while the design runs on the part p, with the parts c chosen, and ps the parts after p, the first of which is j
  pub fair_behind : (p : Part) (ps : List Part) (c : Sample) (j e k den : ℕ) → Apart (p.at + length p.rows) ps e → k < p.at → (u : Sample) (t : Tree Sample)
      → Average (X k) (cond (u k) den 0) den (resumed B p (chosen c j ps) u t)
  fair_behind p ps c j e k den h l u t =
      let R : Tree Sample = resumed B p (chosen c j ps) u t in
      let all : Every (λ w. w k ≡ u k) R =
      (every_bind (λ w. w k ≡ u k) t (λ v. series B (chosen c j ps) (joined p u v))).1
      (every_all t (λ v. every_map (series B (chosen c j ps) (joined p u v)) (λ w g. g ∙ joined_out p u v k (holds_before p k l))
      (kept (chosen c j ps) (p.at + length p.rows) e k (apart_chosen c j (p.at + length p.rows) ps e h) (omega arith) (joined p u v)))) in
      both (u k) (weight R) (expect (X k) R) (expect_every (X k) (λ w. cond (u k) 1 0) R (every_map R (λ w g. ap (λ b. cond b 1 0) g) all) ∙ expect_constant (cond (u k) 1 0) R)
    where
      both : (b : Bool) (W I : ℕ) → I ≡ cond b 1 0 * W → cond b den 0 * W ≡ den * I
      both true W I g = omega (arith, ap (λ x. den * x) g)
      both false W I g = omega (arith, ap (λ x. den * x) g)

  pub fair_present : (p : Part) (ps : List Part) (c : Sample) (j e k num den : ℕ) → Apart (p.at + length p.rows) ps e → p.at ≤ k → k < p.at + length p.rows
      → (u : Sample) (t : Tree Sample) → HasWays t → Average (X (k - p.at)) num den t → Average (X k) num den (resumed B p (chosen c j ps) u t)
  fair_present p ps c j e k num den h a l u t s first =
      fair_in p (chosen c j ps) e k num den (apart_chosen c j (p.at + length p.rows) ps e h) a l u t s first

  pub fair_ahead : (law : SoundPlans B) (p : Part) (ps : List Part) (c : Sample) (j e k : ℕ) → Apart (p.at + length p.rows) ps e → AllAccepted B ps
      → Inside ps k → holds p k ≡ false → (u : Sample) → u k ≡ false → (t : Tree Sample) → HasWays t
      → Average (X k) (given_parts B c j ps k) (denominators B ps k) (resumed B p (chosen c j ps) u t)
  fair_ahead law p ps c j e k h ok i out u z t s =
      second_kept (X k) (given_parts B c j ps k) (denominators B ps k) t (λ v. series B (chosen c j ps) (joined p u v)) s
      (every_all t (λ v. fair_given law c ps j (p.at + length p.rows) e k h ok i (joined p u v) (joined_out p u v k out ∙ z)))

-- ---- all parts of a list
abbrev every_part : Sample
every_part j = true

chosen_all : (j : ℕ) (ps : List Part) → chosen every_part j ps ≡ ps
chosen_all j [] = refl
chosen_all j (p ∷ ps) = ap (λ qs. p ∷ qs) (chosen_all (suc j) ps)

module _ (alike : Row → Row → Bool) (sample : ℕ → ℕ) (list : List Row) (k : ℕ) (l : k < length list) where
  chain : Chain 0 (parts alike sample list) (length list)
  chain = chain_cut sample list (bounds alike list) (rising_bounds alike list (omega arith))

  apart : Apart 0 (parts alike sample list) (length list)
  apart = chain_apart 0 (parts alike sample list) (length list) chain

  inside : Inside (parts alike sample list) k
  inside = chain_inside 0 (parts alike sample list) (length list) k chain (omega arith) l

pub series_fair : SeriesFair
series_fair B law alike sample list ok k l =
    let ps = parts alike sample list in
    let given = fair_given B law every_part ps 0 0 (length list) k (apart alike sample list k l) ok (inside alike sample list k l) nothing refl in
    let num : given_parts B every_part 0 ps k ≡ numerators B ps k = given_is B every_part 0 ps k ∙ omega arith in
    subst (λ qs. Average (X k) (numerators B ps k) (denominators B ps k) (series B qs nothing)) (chosen_all 0 ps)
    (subst (λ n. Average (X k) n (denominators B ps k) (series B (chosen every_part 0 ps) nothing)) num given)

pub stages_fair : StagesFair
stages_fair B law alike sample list ok k l t num den s first =
    fair_stages B law (parts alike sample list) 0 (length list) k num den t s (apart alike sample list k l) ok (inside alike sample list k l) first
