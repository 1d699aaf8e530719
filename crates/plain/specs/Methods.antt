-- What a method of drawing is given and leaves, over the units of its run.
use Rattle.std.specs.Prelude.{◌≡◌, ℕ, ◌<◌, ◌≤◌, List, length, None, slice_index}
use Rattle.outcomes.specs.Trees.{Tree, Sample, Share, Lawful}
use Rattle.design.specs.Plans.{Plans}
use Rattle.design.specs.Lists.{total}
use Rattle.design.specs.declared.row.Row.{Row}
use Rattle.methods.specs.Plain.{goals, plain_refusal, plain_plan}
use Rattle.plain.specs.Of.{runs, whole, held, HoldsGoals}
use Rattle.plain.specs.declared.holdings.Holdings.{Holdings}

-- the plan of the plain design that has such a tree by the total and the goals of a list
abbrev pub plan_from : (ℕ → List ℕ → Tree Sample) → Plans
plan_from tree list n = plain_plan list n (tree (total list) (goals list n))

-- a run has begun on a list that is not refused, and each unit holds its goal
pub record Accepted (h : Holdings) : Type 0 where
  pub list : List Row
  pub n : ℕ
  pub accepts : plain_refusal list n ≡ None
  pub begun : HoldsGoals list n h

-- the run stays, with its total and as many units
pub record SameRun (old new : Holdings) : Type 0 where
  pub runs_still : runs new ≡ runs old
  pub total_still : whole new ≡ whole old
  pub units_still : length (held new) ≡ length (held old)

-- what each unit holds of a total within the limits is its exact share in this tree
pub record HoldShares (h : Holdings) (t : Tree Sample) : Type 0 where
  pub some : 0 < whole h
  pub within : whole h ≤ 10240000
  pub lawful : Lawful (length (held h)) t
  pub shares : (k : ℕ) → k < length (held h) → Share k (slice_index (held h) k) (whole h) t
