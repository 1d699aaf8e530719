-- The trees of parts one after another: their limits, and the prescribed numbers of each unit.
use Rattle.std.proofs.Common.{◌≡◌, ℕ, ◌+◌, ◌-◌, ◌^◌, ◌<◌, ◌≤◌, Bool, true, false, T, ◌⊎◌, List, [], ◌∷◌, length, None, Option, refl, subst, inl, inr, arith}
use Rattle.std.proofs.lemmas.Bool.{cases_lt}
use Rattle.outcomes.specs.Trees.{Tree, finished, branching, Sample, Lawful, bind}
use Rattle.design.specs.Faults.{Refusal}
use Rattle.design.specs.Design.{Plan, refuses, accepts, SoundPlan}
use Rattle.design.specs.declared.row.Row.{Row}
use Rattle.parts.specs.Parts.{Part, bounds, parts, holds}
use Rattle.design.specs.Plans.{Plans, tree_of, numerator_of, denominator_of, SoundPlans}
use Rattle.parts.specs.Series.{plan_for, joined, series, numerators, denominators, refused_or, part_refusal}
use Rattle.parts.specs.Bounds.{Accepted, AllAccepted}
use Rattle.parts.proofs.Chains.{Chain, Apart}
use Rattle.parts.proofs.Holds.{holds_in, holds_past, holds_is, joined_out}
use Rattle.parts.proofs.Cuts.{rising_bounds, chain_cut, chain_apart}
use Rattle.parts.proofs.Series.{lawful_of}

-- the parts of a list follow one another from its first row to its end
pub chain_parts : (alike : Row → Row → Bool) (sample : ℕ → ℕ) (list : List Row) → Chain 0 (parts alike sample list) (length list)
unfolding bounds
chain_parts alike sample [] = refl
chain_parts alike sample (r ∷ rs) = chain_cut sample (r ∷ rs) (bounds alike (r ∷ rs)) (rising_bounds alike (r ∷ rs) (omega arith))

pub apart_parts : (alike : Row → Row → Bool) (sample : ℕ → ℕ) (list : List Row) → Apart 0 (parts alike sample list) (length list)
apart_parts alike sample list = chain_apart 0 (parts alike sample list) (length list) (chain_parts alike sample list)

-- where no part is refused, all are accepted
pub all_accepted : (B : Plans) (ps : List Part) → part_refusal B ps ≡ None → AllAccepted B ps
all_accepted B [] e = tt
all_accepted B (p ∷ ps) e = let h = by (plan_for B p) (part_refusal B ps) e in (h.0, all_accepted B ps h.1)
  where
    by : (a : Plan) (o : Option Refusal) → refused_or p.at a o ≡ None → Accepted a × (o ≡ None)
    by (refuses f) o e = absurd (let z : ◌≡◌ {A = ℕ} 0 1 = cc in omega arith)
    by (accepts num run) o e = (tt, e)

-- ---- the limits of trees
pub lawful_bind : (n e : ℕ) (t : Tree Sample) (h : Sample → Tree Sample) → Lawful n t → ((v : Sample) → ((k : ℕ) → T (v k) → k < n) → Lawful e (h v)) → Lawful e (bind t h)
lawful_bind n e (finished v) h l f = f v l
lawful_bind n e (branching m sub) h l f = (l.0, l.1, λ d k. lawful_bind n e (sub d) h (l.2 d k) f)

pub joined_below : (p : Part) (u w : Sample) (e : ℕ) → p.at + length p.rows ≤ e → ((k : ℕ) → T (u k) → k < e) → (k : ℕ) → T (joined p u w k) → k < e
joined_below p u w e l h k y = by (holds p k) refl
  where
    by : (b : Bool) → holds p k ≡ b → k < e
    by true is = omega (arith, (holds_is p k is).1)
    by false is = h k (subst T (joined_out p u w k is) y)

pub apart_le : (a : ℕ) (ps : List Part) (e : ℕ) → Apart a ps e → a ≤ e
apart_le a [] e h = h
apart_le a (p ∷ ps) e h = omega (arith, h.0, apart_le (p.at + length p.rows) ps e h.2)

pub prescribed_of : (list : List Row) (a : Plan) → SoundPlan list a → Accepted a → (k : ℕ) → k < length list
    → (1 ≤ numerator_of a k) × (numerator_of a k ≤ denominator_of a k) × (denominator_of a k ≤ 10 ^ 15)
prescribed_of list (refuses f) s ok k l = absurd ok
prescribed_of list (accepts num run) s ok k l = s.prescribed k l

module _ (B : Plans) (law : SoundPlans B) where
  pub lawful_apart : (ps : List Part) (a e : ℕ) → Apart a ps e → AllAccepted B ps → (u : Sample) → ((k : ℕ) → T (u k) → k < e) → Lawful e (series B ps u)
  lawful_apart [] a e c ok u h = h
  lawful_apart (p ∷ ps) a e c ok u h =
      lawful_bind (length p.rows) e (tree_of (plan_for B p)) (λ v. series B ps (joined p u v))
      (lawful_of p.rows (plan_for B p) (law p.rows p.sample) ok.0)
      (λ v g. lawful_apart ps (p.at + length p.rows) e c.2 ok.1 (joined p u v) (joined_below p u v e (apart_le (p.at + length p.rows) ps e c.2) h))

  pub prescribed_parts : (ps : List Part) (a e k : ℕ) → Chain a ps e → a ≤ k → k < e → AllAccepted B ps
      → (1 ≤ numerators B ps k) × (numerators B ps k ≤ denominators B ps k) × (denominators B ps k ≤ 10 ^ 15)
  prescribed_parts [] a e k c al l ok = absurd (omega (arith, c))
  prescribed_parts (p ∷ ps) a e k c al l ok =
      by (λ x. prescribed_parts ps (a + length p.rows) e k c.2 x l ok.1) (cases_lt k (p.at + length p.rows))
    where
      by : (a + length p.rows ≤ k → (1 ≤ numerators B ps k) × (numerators B ps k ≤ denominators B ps k) × (denominators B ps k ≤ 10 ^ 15))
          → (k < p.at + length p.rows) ⊎ (p.at + length p.rows ≤ k)
          → (1 ≤ numerators B (p ∷ ps) k) × (numerators B (p ∷ ps) k ≤ denominators B (p ∷ ps) k) × (denominators B (p ∷ ps) k ≤ 10 ^ 15)
      by ih (inl x) =
          rw (holds_in p k (omega (arith, c.0)) x)
          (prescribed_of p.rows (plan_for B p) (law p.rows p.sample) ok.0 (k - p.at) (omega (arith, c.0)))
      by ih (inr x) = rw (holds_past p k x) (ih (omega (arith, c.0)))
