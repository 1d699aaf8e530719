-- What the invariants of a table say of the lists that it holds.
use Rattle.std.proofs.Common.{◌≡◌, ℕ, ◌+◌, ◌<◌, ◌≤◌, ltb, ◌⊎◌, length, sym, ◌∙◌, inl, inr, arith}
use Rattle.std.proofs.lemmas.Bool.{cases_lt, lt-ltb, le-ltb}
use Rattle.parts.specs.Bounds.{Rising}
use Rattle.parts.specs.Running.{all_parts, sample_of, first_row_of}
use Rattle.parts.proofs.Places.{cut-length, rising_at, rising_known}
use Rattle.series.specs.Tables.{tables}
use Rattle.series.specs.declared.table.PartTable.{PartTable}

pub shifted : (a b n : ℕ) → b + 1 ≡ n → ltb a b ≡ ltb (a + 1) n
shifted a b n e = by (cases_lt a b)
  where
    by : (a < b) ⊎ (b ≤ a) → ltb a b ≡ ltb (a + 1) n
    by (inl l) = lt-ltb a b l ∙ sym (lt-ltb (a + 1) n (omega arith))
    by (inr l) = le-ltb a b l ∙ sym (le-ltb (a + 1) n (omega arith))

module _ (t : PartTable) where
  pub rising : Rising (tables t).bounds (length (tables t).rows)
  rising = rising_known t.bounds (length t.rows) t.bounds_rise

  -- as many flags and sample sizes as parts
  pub counted : length t.chosen ≡ length (all_parts (tables t))
  counted = sym (cut-length (sample_of (tables t)) t.rows t.bounds ∙ omega (arith, t.chosen_all))

  -- and no more than units may be
  pub few_parts : length (all_parts (tables t)) ≤ 1024
  few_parts = omega (arith, counted, t.chosen_all, t.bounds_few, t.rows_few)

  -- the part j is not empty and ends in the list
  pub bounded : (j : ℕ) → j < length t.chosen → (first_row_of (tables t) j < first_row_of (tables t) (j + 1)) × (first_row_of (tables t) (j + 1) ≤ length t.rows)
  bounded j l =
      let r = rising_at (tables t).bounds (length (tables t).rows) j rising (omega (arith, t.chosen_all)) in
      (r.0, omega (arith, r.1))
