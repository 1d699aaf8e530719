use Rattle.std.proofs.Common.{◌∙◌, arith}
use Rattle.weights.proofs.Divisors.{gcd_step, gcd_over}
use Rattle.weights.proofs.terms.common_divisor.Goals as goal

pub loop-y-preserved : goal.loop-y-preserved
loop-y-preserved c = gcd_step c.loop-y.x c.loop-y.y ∙ c.loop-y.invariant

pub returns : goal.returns
returns c = gcd_over c.loop-y.x c.loop-y.y (omega arith) ∙ c.loop-y.invariant
