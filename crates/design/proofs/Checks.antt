-- The loops over the rows of a list, and what an accepted list has.
use Rattle.std.proofs.Common.{◌≡◌, ℕ, zero, suc, ◌+◌, ◌-◌, ◌<◌, ◌≤◌, eqb, ltb, List, length, Some, None, arith}
use Rattle.std.proofs.lemmas.Bool.{lt-ltb, ltb-false, eqb-false}
use Rattle.design.specs.declared.row.Row.{Row}
use Rattle.design.specs.Faults.{refused_if}
use Rattle.design.specs.Lists.{first, no_size, passes, size_at, total_before, total, count_refusal, size_refusal, total_refusal, list_refusal}
use Rattle.design.proofs.Firsts.{first_here, first_none, neither, no_row, not_refused}

-- the running total over the first i rows
abbrev pub Summed : List Row → ℕ → ℕ → Type 0
Summed list i sum = (first i (passes list) ≡ None) × (sum ≡ total_before list i) × (sum ≤ 10240000)

pub passes_here : (list : List Row) (i sum : ℕ) → Summed list i sum → 10240000 - sum < size_at list i → i < length list → first (length list) (passes list) ≡ Some i
passes_here list i sum inv l here =
    first_here (length list) i (passes list) inv.0 (lt-ltb 10240000 (total_before list i + size_at list i) (omega arith)) here

-- what the check of the count leaves
pub record Counted (list : List Row) : Type 0 where
  pub some_rows : 0 < length list
  pub few_rows : length list ≤ 1024

pub counted : (list : List Row) → count_refusal list ≡ None → Counted list
counted list e =
    let a = neither (refused_if (eqb (length list) 0) 1) _ e in
    let b = neither (refused_if (ltb 1024 (length list)) 2) _ a.1 in
    record {
      some_rows = omega (arith, eqb-false (length list) 0 (not_refused _ 1 a.0));
      few_rows = ltb-false 1024 (length list) (not_refused _ 2 b.0);
    }

within : (list : List Row) (m : ℕ) → first m (passes list) ≡ None → total_before list m ≤ 10240000
within list zero e = omega arith
within list (suc m) e = ltb-false 10240000 (total_before list m + size_at list m) (first_none (suc m) (passes list) e m (omega arith))

-- what the check of rows and sample size leaves
pub record Checked (list : List Row) (n : ℕ) : Type 0 where
  pub some_rows : 0 < length list
  pub few_rows : length list ≤ 1024
  pub some_sample : 0 < n
  pub sized : (k : ℕ) → k < length list → 0 < size_at list k
  pub small : total list ≤ 10240000

pub checked : (list : List Row) (n : ℕ) → list_refusal list n ≡ None → Checked list n
checked list n e =
    let a = neither (count_refusal list) _ e in
    let b = neither (refused_if (eqb n 0) 3) _ a.1 in
    let c = neither (size_refusal list) _ b.1 in
    let d = neither (total_refusal list) _ c.1 in
    let f = counted list a.0 in
    record {
      some_rows = f.some_rows;
      few_rows = f.few_rows;
      some_sample = omega (arith, eqb-false n 0 (not_refused _ 3 b.0));
      sized = λ k l. positive (size_at list k) (eqb-false (size_at list k) 0 (first_none (length list) (no_size list) (no_row _ 4 c.0) k l));
      small = within list (length list) (no_row _ 5 d.0);
    }
  where
    positive : (x : ℕ) → (x ≡ 0 → ⊥) → 0 < x
    positive x ne = omega arith
