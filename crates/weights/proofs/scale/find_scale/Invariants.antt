use Rattle.std.proofs.Common.{◌≡◌, ◌≤◌}
use Rattle.weights.specs.Begun.{OfPrescribed}
use Rattle.weights.specs.Scale.{scale_of}
use Rattle.weights.proofs.scale.find_scale.Given as goal

-- the scale of the units so far
abbrev pub invariant-loop-k : goal.invariant-loop-k
invariant-loop-k g l =
    (l.scale ≤ 1000000) × OfPrescribed g.D.Design l.design l.units (λ num den. l.scale ≡ scale_of l.k num den)
