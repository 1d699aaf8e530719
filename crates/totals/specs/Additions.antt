-- The refusals of an addition, in their order.
use Rattle.std.specs.Prelude.{ℕ, Bool, not, [], ◌∷◌, Option, nat_lt, nat_le}
use Rattle.design.specs.Faults.{Refusal, first_of, refused_if}

-- a weight above 10^9; a reading that is not lawful; after 1,024 additions
abbrev pub add_refusal : ℕ → Bool → ℕ → Option Refusal
add_refusal w lawful additions =
    first_of (refused_if (nat_lt 1000000000 w) 27 ∷ refused_if (not lawful) 26 ∷ refused_if (nat_le 1024 additions) 28 ∷ [])
