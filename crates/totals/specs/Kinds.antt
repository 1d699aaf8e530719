-- What a reading of each kind of total means.
use Rattle.std.specs.Prelude.{ℕ, Bool, ℤ, pos, unsigned_abs, List, [], ◌∷◌, replicate, slice_set, nat_lt, nat_le}

-- money: an amount, lawful up to a million either way, is a row of one number
abbrev pub money_lawful : ℤ → Bool
money_lawful amount = nat_le (unsigned_abs amount) 1000000

abbrev pub money_row : ℤ → List ℤ
money_row amount = amount ∷ []

-- the table, of two rows of three cells: the number of a cell, lawful from 0 to 5, is 1 there and 0 elsewhere
abbrev pub cell_lawful : ℕ → Bool
cell_lawful at = nat_lt at 6

abbrev pub cell_row : ℕ → List ℤ
cell_row at = slice_set (replicate 6 (pos 0)) at (pos 1)
