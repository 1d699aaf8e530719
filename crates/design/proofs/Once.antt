-- What the promises of a design say of a run has one proof at most, so that it may be shown from a truncated fact.
use Rattle.std.proofs.Common.{◌≡◌, ℕ, ◌^◌, ◌<◌, ◌≤◌, cond, ◌⊎◌, Ok, Err, Result, refl, ap, subst, ap₂, inl, inr, arith}
use mathlib.Core.Path.{fun_ext}
use mathlib.Core.HLevel.{Π_prop, Σ_prop_path, hedberg, collapsible→set}
use mathlib.Core.Sum.{⊎_set}
use native.Mathlib.Decide.{ℕ_discrete}
use Rattle.std.proofs.Props.{props}
use Rattle.outcomes.specs.Trees.{Tree, finished, branching, Sample, Lawful}
use Rattle.outcomes.proofs.Trees.{average_one, lawful_ways}
use Rattle.design.specs.Design.{Run, Standing, no_run, in_run, Fair, Shared, Stepped, SoundRun, SoundStanding, ways_of}
use Rattle.design.specs.Faults.{numbered, refusal}
use Rattle.design.specs.declared.fault.Fault.{Fault}
use Rattle.design.specs.Fractions.{Fraction}

-- ---- trees and runs are sets
samples : IsSet Sample
samples = hlevel props

-- equal trees, part by part
abbrev Same : Tree Sample → Tree Sample → Type 0
Same (finished u) (finished v) = u ≡ v
Same (finished u) (branching n t) = ⊥
Same (branching m s) (finished v) = ⊥
Same (branching m s) (branching n t) = (m ≡ n) × ((d : ℕ) → Same (s d) (t d))

same_once : (x y : Tree Sample) → IsProp (Same x y)
same_once (finished u) (finished v) = samples u v
same_once (finished u) (branching n t) = hlevel
same_once (branching m s) (finished v) = hlevel
same_once (branching m s) (branching n t) = let h : (d : ℕ) → IsProp (Same (s d) (t d)) = λ d. same_once (s d) (t d) in hlevel (props, h)

same_itself : (x : Tree Sample) → Same x x
same_itself (finished u) = refl
same_itself (branching m s) = (refl, λ d. same_itself (s d))

same_equal : (x y : Tree Sample) → Same x y → x ≡ y
same_equal (finished u) (finished v) e = ap finished e
same_equal (finished u) (branching n t) e = absurd e
same_equal (branching m s) (finished v) e = absurd e
same_equal (branching m s) (branching n t) e = ap₂ branching e.0 (fun_ext (λ d. same_equal (s d) (t d) (e.1 d)))

equal_same : (x y : Tree Sample) → x ≡ y → Same x y
equal_same x y e = subst (Same x) e (same_itself x)

trees : IsSet (Tree Sample)
trees = collapsible→set (λ x y e. same_equal x y (equal_same x y e)) (λ x y p q. ap (same_equal x y) (same_once x y (equal_same x y p) (equal_same x y q)))

runs : IsSet Run
runs = hlevel (props, trees)

pub standings : IsSet Standing
standings = hlevel (props, runs, ⊎_set)

-- ---- the promises
either_once : {A B : Type 0} → IsProp A → IsProp B → (A → B → ⊥) → IsProp (A ⊎ B)
either_once a b not (inl x) (inl y) = ap inl (a x y)
either_once a b not (inl x) (inr y) = absurd (not x y)
either_once a b not (inr x) (inl y) = absurd (not y x)
either_once a b not (inr x) (inr y) = ap inr (b x y)

pub stepped_once : {U : Type 0} (before : Standing) (d : ℕ) (r : Result U Fault) (after : Standing) → IsProp (Stepped before d r after)
stepped_once before d (Ok u) after = hlevel (props, standings)
stepped_once before d (Err e) after =
    let apart : IsProp (((ways_of before ≡ 0) × (numbered e ≡ refusal 17)) ⊎ ((0 < ways_of before) × (ways_of before ≤ d) × (numbered e ≡ refusal 18))) =
    either_once (hlevel props) (hlevel props) (λ x y. absurd (omega (arith, x.0, y.0))) in
    hlevel (props, standings, apart)

pub shared_once : (s : Standing) (k : ℕ) (r : Result Fraction Fault) → IsProp (Shared s k r)
shared_once no_run k (Ok a) = hlevel
shared_once no_run k (Err e) = hlevel props
shared_once (in_run run) k (Ok a) = hlevel props
shared_once (in_run run) k (Err e) = hlevel props

-- ---- a sound run
lawful_once : (units : ℕ) (t : Tree Sample) → IsProp (Lawful units t)
lawful_once units (finished u) = hlevel props
lawful_once units (branching m s) = let h : (d : ℕ) → IsProp (Lawful units (s d)) = λ d. lawful_once units (s d) in hlevel (props, h)

numerator_once : (run : Run) (k : ℕ) → Lawful run.units run.tree → IsProp ((num : ℕ) × Fair run k num)
numerator_once run k l x y =
    Σ_prop_path (λ num. hedberg ℕ_discrete _ _) (average_one (λ u. cond (u k) 1 0) x.0 y.0 (run.denominator k) run.tree (lawful_ways run.units run.tree l) x.1 y.1)

sound_run_once : (run : Run) → IsProp (SoundRun run)
sound_run_once run x y = λ i. record {
  lawful = lawful_once run.units run.tree x.lawful y.lawful i;
  denominators = bounds x.denominators y.denominators i;
  exact = Π_prop (λ k. Π_prop (λ (l : k < run.units). numerator_once run k x.lawful)) x.exact y.exact i;
}
  where
    bounds : IsProp ((k : ℕ) → k < run.units → (1 ≤ run.denominator k) × (run.denominator k ≤ 10 ^ 15))
    bounds = hlevel props

pub sound_once : (s : Standing) → IsProp (SoundStanding s)
sound_once no_run = hlevel
sound_once (in_run run) = sound_run_once run
