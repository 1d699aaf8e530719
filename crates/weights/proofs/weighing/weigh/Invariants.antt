use Rattle.std.proofs.Common.{◌≡◌, length}
use Rattle.weights.specs.Begun.{OfPrescribed}
use Rattle.weights.specs.Scale.{NoneTooHeavy}
use Rattle.weights.proofs.Weighed.{WeighedSoFar}
use Rattle.weights.proofs.weighing.weigh.Given as goal

abbrev pub invariant-loop-k : goal.invariant-loop-k
invariant-loop-k g l =
    (length l.weights ≡ l.k) × NoneTooHeavy l.weights
    × OfPrescribed g.D.Design l.design l.units (λ num den. WeighedSoFar l.k num den l.scale l.weights)
