-- What a field may hold, and the number of its fault.
use Rattle.std.specs.Prelude.{ℕ, zero, suc, ◌-◌, ◌+◌, ◌*◌, Bool, cond, ◌&&◌, ◌||◌, List, [], ◌∷◌, length, drop, Some, None, Option, ◌==◌, nat_lt, nat_le, slice_index_or}
use Rattle.std.specs.Str.{all_ascii_digits}
use Rattle.frame_file.specs.Limits.{most_takes, largest_sample, largest_seed, last_place, last_cell, largest_size, largest_amount}

-- ---- numbers
-- the number that the digits write, after those of n
abbrev pub read_on : ℕ → List ℕ → ℕ
read_on n [] = n
read_on n (c ∷ cs) = read_on (n * 10 + (c - 48)) cs

-- 0, or digits of which the first is not 0
abbrev pub is_numeral : List ℕ → Bool
is_numeral f = all_ascii_digits f && (length f == 1 || nat_lt 48 (slice_index_or f 0 0))

-- the number that a field writes, however long, or none
abbrev pub number_in : List ℕ → Option ℕ
number_in f = cond (is_numeral f) (Some (read_on 0 f)) None

-- ---- kinds of fields
-- a number from low to high; or an amount of money, up to so much either way
pub data FieldKind : Type 0 where
  number : ℕ → ℕ → FieldKind
  amount : ℕ → FieldKind

-- no number is 30, and a number outside low to high is 31
abbrev pub outside : ℕ → ℕ → Option ℕ → Option ℕ
outside low high None = Some 30
outside low high (Some n) = cond (nat_le low n && nat_le n high) None (Some 31)

-- after a minus stands a number, but never 0
abbrev pub outside_below : ℕ → Option ℕ → Option ℕ
outside_below high None = Some 30
outside_below high (Some n) = cond (n == 0) (Some 30) (outside 1 high (Some n))

-- the field begins with a minus
abbrev pub has_minus : List ℕ → Bool
has_minus f = slice_index_or f 0 0 == 45

-- the number of a field's fault, if it has one
abbrev pub wrong_in : FieldKind → List ℕ → Option ℕ
wrong_in (number low high) f = outside low high (number_in f)
wrong_in (amount high) f = cond (has_minus f) (outside_below high (number_in (drop 1 f))) (outside 0 high (number_in f))

-- ---- columns
-- what each column of a line holds, columns counted from 1, and how many fields the line has at least
pub record Form : Type 0 where
  pub kind_at : ℕ → Option FieldKind
  pub least : ℕ

-- the number of the fault of a field in a column: a surplus field is 29, whatever it holds
abbrev pub wrong_at : Option FieldKind → List ℕ → Option ℕ
wrong_at None f = Some 29
wrong_at (Some kind) f = wrong_in kind f

-- the item k of a list, counted from 0
abbrev pub item : {X : Type 0} → List X → ℕ → Option X
item [] k = None
item (x ∷ xs) zero = Some x
item (x ∷ xs) (suc k) = item xs k

-- just these columns
abbrev pub columns : List FieldKind → Form
columns kinds = record { kind_at = λ c. item kinds (c - 1); least = length kinds }

-- line 1: the sample size n and the number m for each cluster, and the seed
abbrev pub header_form : Form
header_form = columns (number 1 largest_sample ∷ number 1 largest_sample ∷ number 1 largest_seed ∷ [])

-- line 2: the take of each stratum
abbrev pub takes_form : Form
takes_form = record { kind_at = λ c. cond (nat_le c most_takes) (Some (number 1 largest_sample)) None; least = 1 }

-- every further line: a unit's stratum, cluster, size, money and cell
abbrev pub unit_form : Form
unit_form = columns (number 0 last_place ∷ number 0 last_place ∷ number 1 largest_size ∷ amount largest_amount ∷ number 0 last_cell ∷ [])

-- the form of line i
abbrev pub form_of : ℕ → Form
form_of i = cond (i == 1) header_form (cond (i == 2) takes_form unit_form)
