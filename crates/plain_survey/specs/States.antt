-- The state of the plain survey: the waiting words and, in a run, its list, its sample size and its present tree.
use Rattle.std.specs.Prelude.{ℕ, List, Some, None, Ok, Err, Option, Result}
use Rattle.outcomes.specs.Trees.{Tree, Sample, ways, subtree}
use Rattle.design.specs.Faults.{Refusal}
use Rattle.design.specs.declared.row.Row.{Row}

-- a run: the list and the sample size that it was started with, and the present tree
pub record PlainRun : Type 0 where
  pub list : List Row
  pub n : ℕ
  pub tree : Tree Sample

-- the words that wait in the source, and the run that stands, if one does
pub record State : Type 0 where
  pub words : List ℕ
  pub run : Option PlainRun

-- the ways of the next throw; without a run they count as 0
abbrev pub ways_now : Option PlainRun → ℕ
ways_now None = 0
ways_now (Some r) = ways r.tree

-- the run after a throw: at that subtree; where the throw was refused, the tree stays
abbrev pub run_after : Result ℕ Refusal → Option PlainRun → Option PlainRun
run_after thrown None = None
run_after (Err e) (Some r) = Some r
run_after (Ok d) (Some r) = Some (record { list = r.list; n = r.n; tree = subtree r.tree d })
