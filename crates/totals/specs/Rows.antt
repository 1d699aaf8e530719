-- Rows of whole numbers, and what an addition makes of the entries of a total.
use Rattle.std.specs.Prelude.{◌≡◌, ℕ, ◌≤◌, ℤ, pos, ◌+ℤ◌, ◌*ℤ◌, unsigned_abs, List, length, All, map, zip}

-- none is above the reach in magnitude
abbrev pub Within : ℕ → List ℤ → Type 0
Within reach row = All (λ x. unsigned_abs x ≤ reach) row

-- a row as a kind of total fixes it: of this width, within this reach
abbrev pub IsRow : ℕ → ℕ → List ℤ → Type 0
IsRow width reach row = (length row ≡ width) × Within reach row

-- each entry raised by w times the number of the row in its place
abbrev pub raised : ℕ → List ℤ → List ℤ → List ℤ
raised w entries row = map (λ (entry, x). entry +ℤ pos w *ℤ x) (zip entries row)

-- as many zeros as there are entries
abbrev pub zeros : List ℤ → List ℤ
zeros entries = map (λ _. pos 0) entries
