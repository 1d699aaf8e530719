-- What the plain designs share: the goals, the refusals of a list, and the plan around a design's tree.
use Rattle.std.specs.Prelude.{ℕ, ◌*◌, Bool, List, map, length, Option, nat_lt, slice_index}
use Rattle.outcomes.specs.Trees.{Tree, Sample}
use Rattle.design.specs.Faults.{Refusal, or_else, refused_at}
use Rattle.design.specs.Lists.{size_at, total, first, list_refusal}
use Rattle.design.specs.Design.{Plan, Run, plan_of}
use Rattle.design.specs.declared.row.Row.{Row}

-- the goal of a unit is n times its size
abbrev pub goals : List Row → ℕ → List ℕ
goals list n = map (λ (r : Row). n * r.size) list

-- the goal of row k is above the total
abbrev pub above_total : List Row → ℕ → ℕ → Bool
above_total list n k = nat_lt (total list) (n * size_at list k)

-- the first row whose goal is above the total
abbrev pub goal_refusal : List Row → ℕ → Option Refusal
goal_refusal list n = refused_at (first (length list) (above_total list n)) 6

-- the refusals of a list, in their order
abbrev pub plain_refusal : List Row → ℕ → Option Refusal
plain_refusal list n = or_else (list_refusal list n) (goal_refusal list n)

-- a run whose units all have the total as denominator
abbrev pub plain_run : ℕ → ℕ → Tree Sample → Run
plain_run total units t = record { tree = t; units = units; denominator = λ _. total }

-- the plan of a plain design that has this tree for the list: the prescribed share of a unit is its goal over the total
abbrev pub plain_plan : List Row → ℕ → Tree Sample → Plan
plain_plan list n t = plan_of (plain_refusal list n) (λ k. slice_index (goals list n) k) (plain_run (total list) (length list) t)
