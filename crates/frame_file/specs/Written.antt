-- The written form of a frame, and the ranges of its numbers.
use Rattle.std.specs.Prelude.{ℕ, ℤ, ◌≤◌, pos, negsuc, ◌≤ℤ◌, List, [], ◌∷◌, ◌++◌, map, length, decimal, All}
use Rattle.std.specs.Fmt.{signed_decimal}
use Rattle.std.specs.List.{concat}
use Rattle.frame_file.specs.declared.frame.Header.{Header}
use Rattle.frame_file.specs.declared.frame.FrameUnit.{FrameUnit}
use Rattle.frame_file.specs.declared.frame.Frame.{Frame}
use Rattle.frame_file.specs.Limits.{most_takes, most_units, largest_sample, largest_seed, last_place, last_cell, largest_size, largest_amount}

-- a header of which nothing is read
abbrev pub no_header : Header
no_header = record { n = 0; m = 0; seed = 0 }

-- ---- lines
-- fields with commas between them; and with the end byte behind the last
abbrev pub commas : List (List ℕ) → List ℕ
commas [] = []
commas (f ∷ []) = f
commas (f ∷ g ∷ fs) = f ++ 44 ∷ commas (g ∷ fs)

abbrev pub line : List (List ℕ) → List ℕ
line fs = commas fs ++ 10 ∷ []

-- ---- what stands in each line
-- line 1; line 2; and the line of a unit
abbrev pub header_fields : Header → List (List ℕ)
header_fields h = decimal h.n ∷ decimal h.m ∷ decimal h.seed ∷ []

abbrev pub takes_fields : List ℕ → List (List ℕ)
takes_fields takes = map decimal takes

abbrev pub unit_fields : FrameUnit → List (List ℕ)
unit_fields u = decimal u.row.stratum ∷ decimal u.row.cluster ∷ decimal u.row.size ∷ signed_decimal u.money ∷ decimal u.cell.at ∷ []

-- the lines of all units
abbrev pub units_written : List FrameUnit → List ℕ
units_written units = concat (map (λ u. line (unit_fields u)) units)

-- the bytes of a frame
abbrev pub written : Frame → List ℕ
written f = line (header_fields f.header) ++ line (takes_fields f.takes) ++ units_written f.units

-- ---- ranges
-- from low to high, both included
abbrev pub Between : ℕ → ℕ → ℕ → Type 0
Between low high n = (low ≤ n) × (n ≤ high)

-- the numbers of line 1; the takes and their count; an amount of money; the numbers of a unit; and all units and their count
pub record HeaderFits (h : Header) : Type 0 where
  pub n : Between 1 largest_sample h.n
  pub m : Between 1 largest_sample h.m
  pub seed : Between 1 largest_seed h.seed

pub record TakesFit (takes : List ℕ) : Type 0 where
  pub each : All (Between 1 largest_sample) takes
  pub count : Between 1 most_takes (length takes)

pub record MoneyFits (money : ℤ) : Type 0 where
  pub low : negsuc 999999 ≤ℤ money
  pub high : money ≤ℤ pos largest_amount

pub record UnitFits (u : FrameUnit) : Type 0 where
  pub stratum : u.row.stratum ≤ last_place
  pub cluster : u.row.cluster ≤ last_place
  pub size : Between 1 largest_size u.row.size
  pub money : MoneyFits u.money
  pub cell : u.cell.at ≤ last_cell

pub record UnitsFit (units : List FrameUnit) : Type 0 where
  pub each : All UnitFits units
  pub count : Between 1 most_units (length units)

-- every number of a frame is in its range, and so are the counts
pub record Fits (f : Frame) : Type 0 where
  pub header : HeaderFits f.header
  pub takes : TakesFit f.takes
  pub units : UnitsFit f.units
