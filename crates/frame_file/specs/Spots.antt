-- Spots of a frame file, each judged alone, and the first wrong one.
use Rattle.std.specs.Prelude.{◌≡◌, ℕ, zero, suc, ◌+◌, ◌<◌, ◌≤◌, ◌⊎◌, cond, List, length, Some, None, Option, nat_le}
use Rattle.frame_file.specs.Pieces.{Line, fields_of, lines_of}
use Rattle.frame_file.specs.Fields.{Form, wrong_at, form_of, item}
use Rattle.frame_file.specs.Faults.{FileRefusal, wrong}
use Rattle.frame_file.specs.Limits.{most_bytes, first_unit_line, last_unit_line}

-- a field that stands in a column, or no field where one has to be
abbrev pub field_spot : Form → ℕ → Option (List ℕ) → Option ℕ
field_spot form c None = cond (nat_le c form.least) (Some 29) None
field_spot form c (Some f) = wrong_at (form.kind_at c) f

-- a fault of a whole line stands in column 1, place 0 of the line
abbrev pub in_column_1 : ℕ → ℕ → Option ℕ
in_column_1 number zero = Some number
in_column_1 number (suc k) = None

-- place k of line i, where that line stands
abbrev pub line_spot : ℕ → Line → ℕ → Option ℕ
line_spot i l k =
    cond l.ended
    (cond (nat_le i last_unit_line) (field_spot (form_of i) (1 + k) (item (fields_of l.text) k)) (in_column_1 32 k))
    (in_column_1 29 k)

-- and where it does not
abbrev pub absent_spot : ℕ → ℕ → Option ℕ
absent_spot i k = cond (nat_le i 2) (in_column_1 29 k) (cond (nat_le i first_unit_line) (in_column_1 32 k) None)

abbrev pub spot_of : ℕ → Option Line → ℕ → Option ℕ
spot_of i None k = absent_spot i k
spot_of i (Some l) k = line_spot i l k

-- the number of what is wrong, judged alone, at line j + 1 and column k + 1
abbrev pub spot : List ℕ → ℕ → ℕ → Option ℕ
spot bytes j k = spot_of (1 + j) (item (lines_of bytes) j) k

-- x is wrong at a spot: nothing is wrong in a line above it, nor before it in its line
pub record FirstSpot (bytes : List ℕ) (x : FileRefusal) : Type 0 where
  pub j : ℕ
  pub k : ℕ
  pub number : ℕ
  pub is : x ≡ wrong number (1 + j) (1 + k)
  pub here : spot bytes j k ≡ Some number
  pub above : (a b : ℕ) → a < j → spot bytes a b ≡ None
  pub before : (b : ℕ) → b < k → spot bytes j b ≡ None

-- x is the first that is wrong: the file is too long, or else it is at the first spot
abbrev pub FirstWrong : List ℕ → FileRefusal → Type 0
FirstWrong bytes x = ((most_bytes < length bytes) × (x ≡ wrong 33 0 0)) ⊎ ((length bytes ≤ most_bytes) × FirstSpot bytes x)

-- nothing is wrong, at no spot
pub record NothingWrong (bytes : List ℕ) : Type 0 where
  pub short : length bytes ≤ most_bytes
  pub nowhere : (j k : ℕ) → spot bytes j k ≡ None
