-- The goals of a list, and what an accepted list has.
use Rattle.std.proofs.Common.{◌≡◌, ℕ, ◌*◌, ◌<◌, ◌≤◌, List, length, get_or, Some, None, sym, subst, mul-pos, arith}
use Rattle.std.proofs.lemmas.Bool.{lt-ltb, ltb-false}
use Rattle.std.proofs.lemmas.List.{get_or-map, length-map}
use Rattle.design.specs.Lists.{first, size_at, total, list_refusal}
use Rattle.design.specs.declared.row.Row.{Row}
use Rattle.design.proofs.Firsts.{first_here, first_none, neither, no_row}
use Rattle.design.proofs.Checks.{Checked, checked}
use Rattle.methods.specs.Plain.{goals, above_total, plain_refusal}

pub above_here : (list : List Row) (n i all : ℕ) → all ≡ total list → first i (above_total list n) ≡ None → all < n * size_at list i → i < length list → first (length list) (above_total list n) ≡ Some i
above_here list n i all e inv l here = first_here (length list) i (above_total list n) inv (lt-ltb (total list) (n * size_at list i) (omega arith)) here

-- ---- what an accepted list has
pub record Fine (list : List Row) (n : ℕ) : Type 0 where
  pub checks : Checked list n
  pub reached : (k : ℕ) → k < length list → n * size_at list k ≤ total list

pub fine : (list : List Row) (n : ℕ) → plain_refusal list n ≡ None → Fine list n
fine list n e =
    let a = neither (list_refusal list n) _ e in
    record {
      checks = checked list n a.0;
      reached = λ k l. ltb-false (total list) (n * size_at list k) (first_none (length list) (above_total list n) (no_row _ 6 a.1) k l);
    }

goal_at : (list : List Row) (n k : ℕ) → k < length list → get_or (goals list n) k 0 ≡ n * size_at list k
goal_at list n k l = get_or-map (λ (r : Row). n * r.size) list k (record { stratum = 0; cluster = 0; size = 0 }) 0 l

pub goals_long : (list : List Row) (n : ℕ) → length (goals list n) ≡ length list
goals_long list n = length-map list (λ (r : Row). n * r.size)

pub goal_some : (list : List Row) (n k : ℕ) → Fine list n → k < length list → 1 ≤ get_or (goals list n) k 0
goal_some list n k f l = subst (λ x. 1 ≤ x) (sym (goal_at list n k l)) (mul-pos f.checks.some_sample (f.checks.sized k l))

pub goal_most : (list : List Row) (n k : ℕ) → Fine list n → k < length list → get_or (goals list n) k 0 ≤ total list
goal_most list n k f l = subst (λ x. x ≤ total list) (sym (goal_at list n k l)) (f.reached k l)

pub total_some : (list : List Row) (n : ℕ) → Fine list n → 0 < total list
total_some list n f = omega (arith, goal_some list n 0 f f.checks.some_rows, goal_most list n 0 f f.checks.some_rows)
