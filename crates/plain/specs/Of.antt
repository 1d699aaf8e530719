-- What the fields of Holdings stand for.
use Rattle.std.specs.Prelude.{◌≡◌, ℕ, Bool, true, List, is_some, unwrap_or}
use Rattle.outcomes.specs.Trees.{Tree, Sample}
use Rattle.design.specs.Design.{Standing}
use Rattle.design.specs.Lists.{total}
use Rattle.design.specs.declared.row.Row.{Row}
use Rattle.methods.specs.Holdings.{standing}
use Rattle.methods.specs.Plain.{goals}
use Rattle.plain.specs.declared.holdings.Holdings.{Holdings}

-- whether there is a run, the total (0 where there is none), and what each unit holds of it
abbrev pub runs : Holdings → Bool
runs h = is_some h.total

abbrev pub whole : Holdings → ℕ
whole h = unwrap_or h.total 0

abbrev pub held : Holdings → List ℕ
held h = h.holds

-- the run that stands, where the present tree is t
abbrev pub stands_at : Holdings → Tree Sample → Standing
stands_at h t = standing (runs h) (whole h) (held h) t

-- a run has begun on the list, and each unit holds its goal
pub record HoldsGoals (list : List Row) (n : ℕ) (h : Holdings) : Type 0 where
  pub running : runs h ≡ true
  pub total_is : whole h ≡ total list
  pub goals_are : held h ≡ goals list n
