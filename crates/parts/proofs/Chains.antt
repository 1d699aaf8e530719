-- Parts one after another: in a chain, with gaps, and by the part that holds a row.
use Rattle.std.specs.Prelude.{◌≡◌, ℕ, suc, ◌+◌, ◌-◌, ◌<◌, ◌≤◌, Bool, true, false, cond, List, [], ◌∷◌, length, drop, nat_le}
use Rattle.outcomes.specs.Trees.{Sample}
use Rattle.design.specs.Plans.{Plans, numerator_of}
use Rattle.parts.specs.Parts.{Part, holds}
use Rattle.parts.specs.Series.{plan_for}

-- the parts follow one another from the row a to the row e
abbrev pub Chain : ℕ → List Part → ℕ → Type 0
Chain a [] e = a ≡ e
Chain a (p ∷ ps) e = (p.at ≡ a) × (0 < length p.rows) × Chain (a + length p.rows) ps e

-- the parts rise from the row a to the row e, with gaps
abbrev pub Apart : ℕ → List Part → ℕ → Type 0
Apart a [] e = a ≤ e
Apart a (p ∷ ps) e = (a ≤ p.at) × (0 < length p.rows) × Apart (p.at + length p.rows) ps e

abbrev pub Unless : Bool → Type 0 → Type 0
Unless true X = Unit {0}
Unless false X = X

-- one of the parts holds k
abbrev pub Inside : List Part → ℕ → Type 0
Inside [] k = ⊥
Inside (p ∷ ps) k = Unless (holds p k) (Inside ps k)

-- the numerator of k once the parts c are chosen
abbrev pub given_parts : Plans → Sample → ℕ → List Part → ℕ → ℕ
given_parts B c j [] k = 0
given_parts B c j (p ∷ ps) k = cond (holds p k) (cond (c j) (numerator_of (plan_for B p) (k - p.at)) 0) (given_parts B c (suc j) ps k)

-- which of the parts between the bounds the row k lies in
unfoldable pub seats : List ℕ → ℕ → ℕ
seats [] k = 0
seats (b ∷ bs) k = cond (nat_le b k) (suc (seats bs k)) 0

abbrev pub seat : List ℕ → ℕ → ℕ
seat bs k = seats (drop 1 bs) k
