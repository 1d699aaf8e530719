-- The refusal of a frame file, over its lines and their fields: the first fault in the order in which the file is written.
use Rattle.std.specs.Prelude.{ℕ, ◌+◌, cond, List, [], ◌∷◌, length, Some, None, Option, nat_le}
use Rattle.design.specs.Faults.{or_else}
use Rattle.frame_file.specs.Pieces.{Line, fields_of, lines_of}
use Rattle.frame_file.specs.Fields.{Form, wrong_at, form_of}
use Rattle.frame_file.specs.Faults.{FileRefusal, wrong}
use Rattle.frame_file.specs.Limits.{most_bytes, first_unit_line, last_unit_line}

-- a fault at line i and column c, if there is one
abbrev pub wrong_here : ℕ → ℕ → Option ℕ → Option FileRefusal
wrong_here i c None = None
wrong_here i c (Some number) = Some (wrong number i c)

-- the first fault of fields of line i, of which the first stands in column c: a missing field is 29
abbrev pub fields_refusal : Form → ℕ → ℕ → List (List ℕ) → Option FileRefusal
fields_refusal form i c [] = cond (nat_le c form.least) (Some (wrong 29 i c)) None
fields_refusal form i c (f ∷ fs) = or_else (wrong_here i c (wrong_at (form.kind_at c) f)) (fields_refusal form i (c + 1) fs)

-- the fault of line i: a line without its end byte is 29, one past that of the last unit 32; then come those of its fields
abbrev pub line_refusal : ℕ → Line → Option FileRefusal
line_refusal i l =
    cond l.ended
    (cond (nat_le i last_unit_line) (fields_refusal (form_of i) i 1 (fields_of l.text)) (Some (wrong 32 i 1)))
    (Some (wrong 29 i 1))

-- the fault of a file that ends before line i: line 1 or 2 is absent, or there is no unit
abbrev pub absent : ℕ → Option FileRefusal
absent i = cond (nat_le i 2) (Some (wrong 29 i 1)) (cond (nat_le i first_unit_line) (Some (wrong 32 i 1)) None)

-- the first fault of the lines from line i on
abbrev pub lines_refusal : ℕ → List Line → Option FileRefusal
lines_refusal i [] = absent i
lines_refusal i (l ∷ ls) = or_else (line_refusal i l) (lines_refusal (i + 1) ls)

-- the refusal of a file, if it is refused: one that is too long is not read
abbrev pub file_refusal : List ℕ → Option FileRefusal
file_refusal bytes = cond (nat_le (length bytes) most_bytes) (lines_refusal 1 (lines_of bytes)) (Some (wrong 33 0 0))
