-- The bounds of parts, and what is said of all parts.
use Rattle.std.specs.Prelude.{◌≡◌, ℕ, ◌<◌, List, [], ◌∷◌}
use Rattle.design.specs.Design.{Plan, refuses, accepts}
use Rattle.parts.specs.Parts.{Part}
use Rattle.design.specs.Plans.{Plans}
use Rattle.parts.specs.Series.{plan_for}

-- the design accepts; it accepts every part
abbrev pub Accepted : Plan → Type 0
Accepted (refuses f) = ⊥
Accepted (accepts num run) = Unit {0}

abbrev pub AllAccepted : Plans → List Part → Type 0
AllAccepted B [] = Unit {0}
AllAccepted B (p ∷ ps) = Accepted (plan_for B p) × AllAccepted B ps

-- bounds that go up, step by step, from a to e; bounds from 0 on that rise to e
abbrev pub Steps : ℕ → List ℕ → ℕ → Type 0
Steps a [] e = a ≡ e
Steps a (b ∷ bs) e = (a < b) × Steps b bs e

abbrev pub Rising : List ℕ → ℕ → Type 0
Rising [] e = ⊥
Rising (a ∷ bs) e = (a ≡ 0) × Steps a bs e
