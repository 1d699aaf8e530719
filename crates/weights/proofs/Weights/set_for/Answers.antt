use Rattle.std.proofs.Common.{arith}
use Rattle.design.specs.Faults.{Answers}
use Rattle.weights.proofs.Frames.{capped, of_err}
use Rattle.weights.specs.Of.{Weighs}
use Rattle.weights.specs.Scale.{weights_refusal}
use Rattle.weights.proofs.Weights.set_for.Goals as goal

pub returns-then-is_err-clause-answers : goal.returns-then-is_err-clause-answers
returns-then-is_err-clause-answers g c list num run h =
    of_err (weights_refusal c.args.units num run.denominator) (λ _. Weighs c.args.units num run.denominator c.try_for-done.new.self) _ c.try_for-done.result (cc)
    (capped g.D.Design c.args.design.now c.min.result c.args.units (λ units num den. Answers (weights_refusal units num den) (λ _. Weighs units num den c.try_for-done.new.self) c.try_for-done.result)
    (λ l. omega (arith, c.min.ensures, l)) c.try_for-done.ensures list num run h)

pub returns-else-is_err-clause-answers : goal.returns-else-is_err-clause-answers
returns-else-is_err-clause-answers g c =
    capped g.D.Design c.args.design.now c.min.result c.args.units (λ units num den. Answers (weights_refusal units num den) (λ _. Weighs units num den c.try_for-done.new.self) c.try_for-done.result)
    (λ l. omega (arith, c.min.ensures, l)) c.try_for-done.ensures
