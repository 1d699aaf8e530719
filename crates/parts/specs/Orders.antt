-- The order of a list's rows, on which its parts rest.
use Rattle.std.specs.Prelude.{ℕ, zero, suc, Bool, false, ◌&&◌, ◌||◌, List, length, Option, ◌==◌, nat_lt}
use Rattle.design.specs.Faults.{Refusal, refused_at}
use Rattle.design.specs.Lists.{row_at, first}
use Rattle.design.specs.declared.row.Row.{Row}

-- the row r has a lower stratum than q; a lower pair of stratum, then cluster
abbrev pub lower_stratum : Row → Row → Bool
lower_stratum q r = nat_lt r.stratum q.stratum

abbrev pub lower_cluster : Row → Row → Bool
lower_cluster q r = nat_lt r.stratum q.stratum || (r.stratum == q.stratum && nat_lt r.cluster q.cluster)

-- row k is lower than the row before it
abbrev pub falls_at : (Row → Row → Bool) → List Row → ℕ → Bool
falls_at lower list zero = false
falls_at lower list (suc k) = lower (row_at list k) (row_at list (suc k))

-- the first row that is lower than the row before it
abbrev pub fall_refusal : (Row → Row → Bool) → List Row → Option Refusal
fall_refusal lower list = refused_at (first (length list) (falls_at lower list)) 11
