-- A design run on parts of a list, one after another.
use Rattle.std.specs.Prelude.{ℕ, suc, ◌+◌, ◌-◌, cond, List, [], ◌∷◌, Some, None, Option}
use Rattle.outcomes.specs.Trees.{Tree, finished, Sample, bind}
use Rattle.design.specs.Faults.{Refusal, refusal_passed_up}
use Rattle.design.specs.Design.{Plan, refuses, accepts}
use Rattle.design.specs.Fractions.{Fraction, fraction}
use Rattle.design.specs.Plans.{Plans, tree_of, numerator_of, denominator_of}
use Rattle.parts.specs.Parts.{Part, holds}

-- what the design does with a part
abbrev pub plan_for : Plans → Part → Plan
plan_for B p = B p.rows p.sample

-- the units u of earlier parts, and those of the part p that its outcome v holds, which counts them from the part's first row
abbrev pub joined : Part → Sample → Sample → Sample
joined p u v k = cond (holds p k) (v (k - p.at)) (u k)

-- the trees of the parts one after another, where u was taken before
abbrev pub series : Plans → List Part → Sample → Tree Sample
series B [] u = finished u
series B (p ∷ ps) u = bind (tree_of (plan_for B p)) (λ v. series B ps (joined p u v))

-- the parts of ps that c holds by their number, the first of ps being the part j
abbrev pub chosen : Sample → ℕ → List Part → List Part
chosen c j [] = []
chosen c j (p ∷ ps) = cond (c j) (p ∷ chosen c (suc j) ps) (chosen c (suc j) ps)

-- what f says of the part that holds k, at k's place there
abbrev pub per_unit : (Part → ℕ → ℕ) → List Part → ℕ → ℕ
per_unit f [] k = 0
per_unit f (p ∷ ps) k = cond (holds p k) (f p (k - p.at)) (per_unit f ps k)

-- the prescribed numbers of a unit are those that the design gives it in its part
abbrev pub numerators : Plans → List Part → ℕ → ℕ
numerators B ps = per_unit (λ p. numerator_of (plan_for B p)) ps

abbrev pub denominators : Plans → List Part → ℕ → ℕ
denominators B ps = per_unit (λ p. denominator_of (plan_for B p)) ps

abbrev pub prescribed : Plans → List Part → ℕ → Fraction
prescribed B ps k = fraction (numerators B ps k) (denominators B ps k)

-- the refusal of a part whose first row is `at`, passed upward with that row added to its own; else what follows
abbrev pub refused_or : ℕ → Plan → Option Refusal → Option Refusal
refused_or at (refuses f) o = Some (refusal_passed_up (at + f.row) f)
refused_or at (accepts num run) o = o

-- the first refusal of the parts, in order
abbrev pub part_refusal : Plans → List Part → Option Refusal
part_refusal B [] = None
part_refusal B (p ∷ ps) = refused_or p.at (plan_for B p) (part_refusal B ps)
