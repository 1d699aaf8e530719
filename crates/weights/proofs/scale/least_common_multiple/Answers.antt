use Rattle.std.proofs.Common.{arith}
use Rattle.weights.proofs.Multiples.{lcm_over}
use Rattle.weights.proofs.Prescribed.{scale_fits, scale_passes}
use Rattle.weights.specs.Scale.{lcm}
use Rattle.weights.proofs.scale.least_common_multiple.Goals as goal

pub returns-then-multiple-gt-LARGEST_SCALE-clause-answers : goal.returns-then-multiple-gt-LARGEST_SCALE-clause-answers
returns-then-multiple-gt-LARGEST_SCALE-clause-answers c p q =
    let e = lcm_over c.args.a c.args.b _ _ p q c.max-common.ensures c.common_divisor.ensures in
    scale_passes (lcm c.args.a c.args.b) _ c.of.result (omega (arith, e, c.saturating_mul-multiple.ensures, c.if-multiple-gt-LARGEST_SCALE.true)) c.of.ensures

pub returns-clause-answers : goal.returns-clause-answers
returns-clause-answers c p q =
    let e = lcm_over c.args.a c.args.b _ _ p q c.max-common.ensures c.common_divisor.ensures in
    scale_fits _ (lcm c.args.a c.args.b) (omega (arith, e, c.saturating_mul-multiple.ensures, c.if-multiple-gt-LARGEST_SCALE.false)) c.if-multiple-gt-LARGEST_SCALE.false
