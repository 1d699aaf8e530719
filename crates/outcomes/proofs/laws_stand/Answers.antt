use lib.Dec.{T}
use Rattle.outcomes.proofs.Trees.{positive, martingale, always, never}
use Rattle.outcomes.proofs.Sequences.{sequence}
use Rattle.outcomes.proofs.Listing.{expect_listed, expectℤ_listed, averages_listed, event_listed, weight_listed, equally_likely, reached}
use Rattle.outcomes.proofs.Estimates.{fair_totalℤ}
use Rattle.outcomes.proofs.Roads.{in_step, each, none_twice}
use Rattle.outcomes.proofs.Counting.{counting}
use Rattle.outcomes.proofs.laws_stand.Goals as goal

pub returns : goal.returns
returns c = record {
  positive = positive;
  martingale = martingale;
  certain = λ k t s. (always (λ u. u k) t s, never (λ u. u k) t s);
  sequence = sequence;
  averages = fair_totalℤ;
  averages_listed = averages_listed;
  counting = counting;
  listed = record { weighted = expect_listed; signed = expectℤ_listed; total = weight_listed; holding = λ k t. event_listed (λ u. u k) t };
  reached = λ p t. reached (λ u. T (p u)) t;
  equally_likely = equally_likely;
  road_by_road = record { in_step = in_step; each = each; none_twice = none_twice };
}
