use Rattle.weights.proofs.Divisors.{is_gcd, over_some}
use Rattle.weights.proofs.terms.lowest_terms.Goals as goal

pub returns-clause-numerator : goal.returns-clause-numerator
returns-clause-numerator c =
    over_some _ _ c.common_divisor.result _ (is_gcd c.args.share.0 c.args.share.1).0 c.max-common.ensures c.common_divisor.ensures

pub returns-clause-denominator : goal.returns-clause-denominator
returns-clause-denominator c =
    over_some _ _ c.common_divisor.result _ (is_gcd c.args.share.0 c.args.share.1).1 c.max-common.ensures c.common_divisor.ensures
