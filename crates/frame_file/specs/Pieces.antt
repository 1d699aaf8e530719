-- A text parted by a byte: a line into its fields, a file into its lines.
use Rattle.std.specs.Prelude.{ℕ, Bool, true, false, cond, List, [], ◌∷◌, ◌==◌}

-- b in front of the first piece
abbrev pub onto : ℕ → List (List ℕ) → List (List ℕ)
onto b [] = (b ∷ []) ∷ []
onto b (p ∷ ps) = (b ∷ p) ∷ ps

-- the pieces between the bytes c, also empty ones: one more than there are such bytes
abbrev pub pieces : ℕ → List ℕ → List (List ℕ)
pieces c [] = [] ∷ []
pieces c (b ∷ bs) = cond (b == c) ([] ∷ pieces c bs) (onto b (pieces c bs))

-- the fields of a line are parted by commas
abbrev pub fields_of : List ℕ → List (List ℕ)
fields_of text = pieces 44 text

-- a line, with its end byte or without it
pub record Line : Type 0 where
  pub text : List ℕ
  pub ended : Bool

abbrev pub whole_line : List ℕ → Line
whole_line t = record { text = t; ended = true }

abbrev pub line_cut_off : List ℕ → Line
line_cut_off t = record { text = t; ended = false }

-- what follows the last end byte is a line if it is not empty
abbrev pub last_line : List ℕ → List Line
last_line [] = []
last_line (b ∷ bs) = line_cut_off (b ∷ bs) ∷ []

-- the pieces between end bytes as lines: all but the last are whole
abbrev pub lined : List (List ℕ) → List Line
lined [] = []
lined (p ∷ []) = last_line p
lined (p ∷ q ∷ ps) = whole_line p ∷ lined (q ∷ ps)

-- the lines of a file end with byte 10
abbrev pub lines_of : List ℕ → List Line
lines_of bytes = lined (pieces 10 bytes)
