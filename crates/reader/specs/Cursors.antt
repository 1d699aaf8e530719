-- What a cursor has left to read, and what a step of it reads.
use Rattle.std.specs.Prelude.{◌≡◌, ◌⊎◌, ℕ, ◌+◌, List, [], ◌∷◌, Option, Some, None}
use Rattle.std.specs.Borrow.{Bor}
use Rattle.frame_file.specs.Pieces.{fields_of, line_cut_off, lines_of}
use Rattle.frame_file.specs.Fields.{FieldKind, wrong_in}
use Rattle.frame_file.specs.Faults.{FileRefusal, wrong}
use Rattle.reader.specs.Cuts.{Cut}
use Rattle.reader.specs.declared.fields.Fields.{Fields}
use Rattle.reader.specs.declared.lines.Lines.{Lines}

-- ---- fields
abbrev pub fields_in : Option (Bor (List ℕ)) → List (List ℕ)
fields_in None = []
fields_in (Some text) = fields_of text.now

-- the fields that are left of a line
abbrev pub left : Fields → List (List ℕ)
left fields = fields_in fields.rest

-- the field f was taken off
pub record TakesField (from : Fields) (f : List ℕ) (to : Fields) : Type 0 where
  pub field : left from ≡ f ∷ left to
  pub line : to.line ≡ from.line
  pub column : to.column ≡ from.column + 1

-- what is wrong in the first field that is left, which has to be of a kind: a missing field is 29
abbrev pub wrong_next : FieldKind → List (List ℕ) → Option ℕ
wrong_next kind [] = Some 29
wrong_next kind (f ∷ fs) = wrong_in kind f

-- the first field that is left has to be of a kind, and that is its refusal
pub record IsWrong (kind : FieldKind) (at : Fields) (x : FileRefusal) : Type 0 where
  pub number : ℕ
  pub is : wrong_next kind (left at) ≡ Some number
  pub there : x ≡ wrong number at.line at.column

-- ---- lines
-- one line is left, without its end byte
abbrev pub IsCutOff : List ℕ → Type 0
IsCutOff bytes = lines_of bytes ≡ line_cut_off bytes ∷ []

-- no line is left, or such a line
abbrev pub NoLine : List ℕ → Type 0
NoLine bytes = (bytes ≡ []) ⊎ IsCutOff bytes

-- the line with this text was taken off
pub record TakesLine (from : Lines) (text : List ℕ) (to : Lines) : Type 0 where
  pub cut : Cut 10 from.rest.now text to.rest.now
  pub number : to.number ≡ from.number + 1
