-- What a series answers of a unit by its table alone.
use Rattle.std.specs.Prelude.{◌≡◌, ℕ, cond, Err, Result, nat_lt}
use Rattle.design.specs.Faults.{told, refusal}
use Rattle.design.specs.declared.fault.Fault.{Fault}
use Rattle.design.specs.Fractions.{Fraction, fraction}
use Rattle.parts.specs.Running.{Tables, is_chosen, share_at, so_far}
use Rattle.parts.specs.Seats.{Seated}

-- the share of the unit k of part j, where the design is not in the midst of that part: behind, all or nothing; else, the prescribed one or
-- nothing
abbrev pub noted_share : Tables → ℕ → ℕ → Fraction
noted_share v k j =
    fraction (cond (nat_lt j v.stage) (cond (so_far v k) (share_at v k).1 0) (cond (is_chosen v j) (share_at v k).0 0)) (share_at v k).1

-- where the unit k does not lie in part j, the call about it is refused, as that part has no such unit
abbrev pub RefusedElsewhere : Tables → ℕ → ℕ → Result Fraction Fault → Type 0
RefusedElsewhere v k j r = (Seated v.bounds k j → ⊥) → told r ≡ Err (refusal 19)
