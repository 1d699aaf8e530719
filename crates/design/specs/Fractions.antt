-- Parts of a whole, as shares are answered.
use Rattle.std.specs.Prelude.{ℕ}

-- the pair of numerator and denominator
abbrev pub Fraction : Type 0
Fraction = ℕ × ℕ

-- num parts of a whole of den parts
abbrev pub fraction : ℕ → ℕ → Fraction
fraction num den = (num, den)
