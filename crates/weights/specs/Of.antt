-- What Weights holds.
use Rattle.std.specs.Prelude.{◌≡◌, ℕ, List, [], Result}
use Rattle.design.specs.Faults.{Answers}
use Rattle.design.specs.declared.design.Design as Design
use Rattle.design.specs.declared.fault.Fault.{Fault}
use Rattle.weights.specs.Begun.{HaveWeights, OfPrescribed}
use Rattle.weights.specs.Scale.{scale_of, weights_refusal}
use Rattle.weights.specs.declared.Weights.{Weights}

-- the scale, and the weight of each unit
abbrev pub scale_in : Weights → ℕ
scale_in w = w.scale

abbrev pub weights_in : Weights → List ℕ
weights_in w = w.of_units

-- no units: their scale is 1
pub record HasNone (w : Weights) : Type 0 where
  pub scale_is : scale_in w ≡ 1
  pub none_weighed : weights_in w ≡ []

-- the scale of so many units with these prescribed numerators and denominators, and the design weight of each
pub record Weighs (units : ℕ) (num den : ℕ → ℕ) (w : Weights) : Type 0 where
  pub scale_is : scale_in w ≡ scale_of units num den
  pub have_weights : HaveWeights units num den (scale_in w) (weights_in w)

-- the scale and the weights of a design that has just begun on so many units: refused, or as they are prescribed
abbrev pub SetFor : {D U : Type 0} → Design.Ghosts D → D → ℕ → Weights → Result U Fault → Type 0
SetFor G d units new result = OfPrescribed G d units (λ num den. Answers (weights_refusal units num den) (λ _. Weighs units num den new) result)
