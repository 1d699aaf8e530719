use Rattle.weights.proofs.Divisors.{is_gcd, lowest_terms}
use Rattle.weights.proofs.Scales.{scale_positive, scale_divided, scale_least, weights_exact}
use Rattle.weights.proofs.scale.scale_stands.Goals as goal

pub returns : goal.returns
returns c = record {
  greatest_divisor = is_gcd;
  lowest_terms = lowest_terms;
  least_scale = λ units num den some. (scale_positive units num den some, scale_divided units num den some, scale_least units num den some);
  exact_weights = weights_exact;
}
