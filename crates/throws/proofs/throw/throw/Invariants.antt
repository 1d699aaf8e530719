use Rattle.std.proofs.Common.{◌≡◌, length}
use Rattle.throws.specs.Words.{serving}
use Rattle.throws.proofs.throw.throw.Given as goal

abbrev pub invariant-loop-w : goal.invariant-loop-w
invariant-loop-w g l = serving l.limit (g.S.Source.waiting l.source) ≡ serving l.limit (g.S.Source.waiting l.initial.source)

abbrev pub decreases-loop-w : goal.decreases-loop-w
decreases-loop-w g l = length (g.S.Source.waiting l.source)
