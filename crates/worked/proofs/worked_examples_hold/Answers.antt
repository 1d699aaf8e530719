use Rattle.std.proofs.Common.{refl, rules}
use Rattle.outcomes.specs.Trees.{weight, expect, expectℤ}
use Rattle.methods.specs.Systematic.{systematic}
use Rattle.methods.specs.Pivotal.{pivotal}
use Rattle.methods.specs.Poisson.{poisson}
use Rattle.parts.specs.Parts.{starts, bounds}
use Rattle.weights.specs.Scale.{gcd, lcm}
use Rattle.worked.proofs.worked_examples_hold.Goals as goal

pub returns : goal.returns
unfolding weight expect expectℤ systematic pivotal poisson starts bounds gcd lcm
returns c = record {
  systematic_drawing = search rules;
  estimates = grind rules;
  pivotal_drawing = search rules;
  poisson_drawing = grind rules;
  goals_and_total = search rules;
  stratified_drawing = search rules;
  two_stage_drawing = search rules;
  throw_of_six = search rules;
  generator_of_seed_1 = refl;
}
