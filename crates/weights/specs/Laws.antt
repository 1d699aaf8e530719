-- The laws of scale and design weights, as statements.
use Rattle.std.specs.Prelude.{◌≡◌, ℕ, ◌*◌, ◌<◌}
use Rattle.std.specs.Int.{IsGcd}
use Prim.Native.Nat.{◌∣◌}
use Rattle.weights.specs.Scale.{gcd, top, bottom, scale_of, design_weight}

-- the greatest common divisor divides both numbers, and each common divisor divides it
abbrev pub GreatestDivisor : Type 0
GreatestDivisor = (a b : ℕ) → IsGcd a b (gcd a b)

-- top / bottom is the share num / den, and no number but 1 divides both
abbrev pub LowestTerms : Type 0
LowestTerms = (num den : ℕ) → 0 < num
    → (top num den * den ≡ bottom num den * num) × ((d : ℕ) → d ∣ top num den → d ∣ bottom num den → d ≡ 1)

-- the units have shares above 0
abbrev pub SharesAboveNone : ℕ → (ℕ → ℕ) → Type 0
SharesAboveNone units num = (k : ℕ) → k < units → 0 < num k

-- the scale is above 0, each numerator in lowest terms divides it, and it divides each number that they all divide
abbrev pub LeastScale : Type 0
LeastScale = (units : ℕ) (num den : ℕ → ℕ) → SharesAboveNone units num
    → (0 < scale_of units num den)
    × ((k : ℕ) → k < units → top (num k) (den k) ∣ scale_of units num den)
    × ((m : ℕ) → ((k : ℕ) → k < units → top (num k) (den k) ∣ m) → scale_of units num den ∣ m)

-- each unit's weight is the scale over its share, exactly
abbrev pub ExactWeights : Type 0
ExactWeights = (units : ℕ) (num den : ℕ → ℕ) → SharesAboveNone units num
    → (k : ℕ) → k < units → design_weight (scale_of units num den) (num k) (den k) * num k ≡ scale_of units num den * den k
