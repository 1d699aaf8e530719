-- Scale and design weights of prescribed shares.
use Rattle.std.specs.Prelude.{ℕ, zero, suc, ◌+◌, ◌*◌, ◌/◌, ◌%◌, ◌≤◌, Bool, cond, ◌&&◌, List, [], ◌∷◌, Option, ◌==◌, nat_lt, unwrap_or, slice_index}
use Rattle.design.specs.Faults.{Refusal, first_of, refused_if, refused_at}
use Rattle.design.specs.Lists.{first}

-- ---- lowest terms
-- a number divides another without remainder
abbrev pub divides : ℕ → ℕ → Bool
divides d n = n % d == 0

-- the greatest number, at most `most`, that divides both a and b
abbrev pub common_divisor_up_to : ℕ → ℕ → ℕ → ℕ
common_divisor_up_to zero a b = 0
common_divisor_up_to (suc most) a b = cond (divides (suc most) a && divides (suc most) b) (suc most) (common_divisor_up_to most a b)

-- the greatest common divisor
unfoldable pub gcd : ℕ → ℕ → ℕ
gcd a b = common_divisor_up_to (a + b) a b

-- the numerator and the denominator of num / den in lowest terms
abbrev pub top : ℕ → ℕ → ℕ
top num den = num / gcd num den

abbrev pub bottom : ℕ → ℕ → ℕ
bottom num den = den / gcd num den

-- ---- the scale
-- a number above 0 that both a and b divide
abbrev pub common_multiple : ℕ → ℕ → ℕ → Bool
common_multiple a b m = nat_lt 0 m && divides a m && divides b m

-- the least common multiple of two numbers above 0: the first one up to their product
unfoldable pub lcm : ℕ → ℕ → ℕ
lcm a b = unwrap_or (first (suc (a * b)) (common_multiple a b)) 0

-- the scale of so many units with these numerators and denominators: the least common multiple of all numerators in lowest terms
abbrev pub scale_of : ℕ → (ℕ → ℕ) → (ℕ → ℕ) → ℕ
scale_of zero num den = 1
scale_of (suc units) num den = lcm (scale_of units num den) (top (num units) (den units))

-- ---- design weights
-- the scale times the share, in lowest terms, turned over
abbrev pub design_weight : ℕ → ℕ → ℕ → ℕ
design_weight scale num den = scale * bottom num den / top num den

-- unit k has a weight above 10^9
abbrev pub too_heavy : ℕ → (ℕ → ℕ) → (ℕ → ℕ) → ℕ → Bool
too_heavy scale num den k = nat_lt 1000000000 (design_weight scale (num k) (den k))

-- no weight is above 10^9
abbrev pub NoneTooHeavy : List ℕ → Type 0
NoneTooHeavy weights = (k : ℕ) → slice_index weights k ≤ 1000000000

-- ---- refusals
-- a scale above 1,000,000
abbrev pub scale_refusal : ℕ → (ℕ → ℕ) → (ℕ → ℕ) → Option Refusal
scale_refusal units num den = refused_if (nat_lt 1000000 (scale_of units num den)) 22

-- the first unit with a weight above 10^9 at this scale
abbrev pub weight_refusal : ℕ → ℕ → (ℕ → ℕ) → (ℕ → ℕ) → Option Refusal
weight_refusal scale units num den = refused_at (first units (too_heavy scale num den)) 23

-- the refusals of a frame's scale and weights, in their order
abbrev pub weights_refusal : ℕ → (ℕ → ℕ) → (ℕ → ℕ) → Option Refusal
weights_refusal units num den = first_of (scale_refusal units num den ∷ weight_refusal (scale_of units num den) units num den ∷ [])
