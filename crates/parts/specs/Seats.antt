-- The part in which a row lies.
use Rattle.std.specs.Prelude.{ℕ, ◌+◌, ◌<◌, ◌≤◌, List, length, slice_index, slice_index_or}

-- the row k lies in part j: from its first row up to, and not including, the first row of the next
pub record Seated (firsts : List ℕ) (k j : ℕ) : Type 0 where
  pub place : j + 1 < length firsts
  pub low : slice_index_or firsts j 0 ≤ k
  pub high : k < slice_index firsts (j + 1)
