-- What the row of a cell adds to the entries of a table.
use Rattle.std.proofs.Common.{◌≡◌, refl, ap, ◌∙◌, ℕ, zero, suc, ◌<◌, ◌≤◌, ℤ, pos, ◌+ℤ◌, ◌*ℤ◌, List, [], ◌∷◌, length, get_or, set, replicate, arith}
use Rattle.std.proofs.lemmas.Int.{ints}
use Rattle.totals.specs.Rows.{raised}
use Rattle.totals.specs.Kinds.{cell_row}

-- a row of zeros changes nothing
raised_by_zeros : (w : ℕ) (entries : List ℤ) (n : ℕ) → length entries ≤ n → raised w entries (replicate n (pos 0)) ≡ entries
raised_by_zeros w [] n h = refl
raised_by_zeros w (e ∷ es) zero h = absurd (omega arith)
raised_by_zeros w (e ∷ es) (suc n) h =
    let first : e +ℤ pos w *ℤ pos 0 ≡ e = omega (arith, ints) in
    let others = raised_by_zeros w es n (omega arith) in
    cc

-- a row with one 1 raises the entry there by the weight
raised_by_one : (w : ℕ) (entries : List ℤ) (n i : ℕ) → length entries ≤ n → i < length entries
    → set entries i (get_or entries i (pos 0) +ℤ pos w) ≡ raised w entries (set (replicate n (pos 0)) i (pos 1))
raised_by_one w [] n i h l = absurd (omega arith)
raised_by_one w (e ∷ es) zero i h l = absurd (omega arith)
raised_by_one w (e ∷ es) (suc n) zero h l =
    let first : e +ℤ pos w ≡ e +ℤ pos w *ℤ pos 1 = omega (arith, ints) in
    let others = raised_by_zeros w es n (omega arith) in
    cc
raised_by_one w (e ∷ es) (suc n) (suc i) h l =
    let first : e ≡ e +ℤ pos w *ℤ pos 0 = omega (arith, ints) in
    let others = raised_by_one w es n i (omega arith) (omega arith) in
    cc

-- the entry at a cell, raised by the weight
pub raised_at_cell : (w : ℕ) (entries : List ℤ) (i at : ℕ) (value : ℤ) → length entries ≡ 6 → i ≡ at → at < 6 → value ≡ get_or entries i (pos 0) +ℤ pos w
    → set entries i value ≡ raised w entries (cell_row at)
raised_at_cell w entries i at value six same below is =
    ap (set entries i) is ∙ raised_by_one w entries 6 i (omega arith) (omega arith) ∙ ap (λ k. raised w entries (cell_row k)) same
