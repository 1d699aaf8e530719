-- The limits of a frame file, and the lines in which its units stand.
use Rattle.std.specs.Prelude.{ℕ}

-- the most bytes, takes and units
abbrev pub most_bytes : ℕ
most_bytes = 32768

abbrev pub most_takes : ℕ
most_takes = 64

abbrev pub most_units : ℕ
most_units = 1024

-- the largest sample size, number for a cluster, and take; and the largest seed
abbrev pub largest_sample : ℕ
largest_sample = 1024

abbrev pub largest_seed : ℕ
largest_seed = 4294967295

-- the highest stratum, cluster and cell
abbrev pub last_place : ℕ
last_place = 65535

abbrev pub last_cell : ℕ
last_cell = 5

-- the largest size, and the largest amount of money, either way
abbrev pub largest_size : ℕ
largest_size = 10000

abbrev pub largest_amount : ℕ
largest_amount = 1000000

-- the line of the unit 0, and that of the last unit that a file may have
abbrev pub first_unit_line : ℕ
first_unit_line = 3

abbrev pub last_unit_line : ℕ
last_unit_line = 1026
