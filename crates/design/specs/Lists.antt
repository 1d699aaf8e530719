-- The rows of a list, and the refusals of a list that designs share.
use Rattle.std.specs.Prelude.{ℕ, zero, suc, ◌+◌, Bool, cond, List, [], ◌∷◌, length, Some, None, Option, ◌==◌, nat_lt, slice_index_or}
use Rattle.outcomes.specs.Sums.{sum}
use Rattle.design.specs.Faults.{Refusal, or_else, first_of, refused_if, refused_at}
use Rattle.design.specs.declared.row.Row.{Row}

-- row k
abbrev pub row_at : List Row → ℕ → Row
row_at list k = slice_index_or list k (record { stratum = 0; cluster = 0; size = 0 })

-- the size of row k
abbrev pub size_at : List Row → ℕ → ℕ
size_at list k = (slice_index_or list k (record { stratum = 0; cluster = 0; size = 0 })).size

-- the total of the sizes of the rows before row k, and of all rows
abbrev pub total_before : List Row → ℕ → ℕ
total_before list k = sum k (size_at list)

abbrev pub total : List Row → ℕ
total list = total_before list (length list)

-- the first number below `count` that passes the test
abbrev pub first : ℕ → (ℕ → Bool) → Option ℕ
first zero test = None
first (suc n) test = or_else (first n test) (cond (test n) (Some n) None)

-- the row has size 0; the total passes the limit at the row
abbrev pub no_size : List Row → ℕ → Bool
no_size list k = size_at list k == 0

abbrev pub passes : List Row → ℕ → Bool
passes list k = nat_lt 10240000 (total_before list k + size_at list k)

-- an empty list; over 1,024 rows
abbrev pub count_refusal : List Row → Option Refusal
count_refusal list = first_of (refused_if (length list == 0) 1 ∷ refused_if (nat_lt 1024 (length list)) 2 ∷ [])

-- the first row of size 0; the row at which the total passes the limit
abbrev pub size_refusal : List Row → Option Refusal
size_refusal list = refused_at (first (length list) (no_size list)) 4

abbrev pub total_refusal : List Row → Option Refusal
total_refusal list = refused_at (first (length list) (passes list)) 5

-- the refusals of a list and a sample size that any design with sizes gives, in their order
abbrev pub list_refusal : List Row → ℕ → Option Refusal
list_refusal list n = first_of (count_refusal list ∷ refused_if (n == 0) 3 ∷ size_refusal list ∷ total_refusal list ∷ [])
