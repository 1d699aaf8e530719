-- The run of the plain survey that the fields of a survey mean, or none.
use Rattle.std.specs.Prelude.{◌≡◌, Bool, true, false, length, Some, None, Option}
use Rattle.design.specs.Design.{Plan, Standing, in_run}
use Rattle.design.specs.Plans.{Plans, numerator_of, denominator_of}
use Rattle.weights.specs.Of.{Weighs}
use Rattle.weights.specs.declared.Weights.{Weights}
use Rattle.plain_survey.specs.States.{PlainRun}
use Rattle.plain_survey.specs.Calls.{start_refusal}
use Rattle.plain_survey.specs.Laws.{run_at}

-- a run r stands: p is what the settings fix for its list, and `standing` is the run at which the design stands
pub record Runs (p : Plan) (standing : Standing) (weights : Weights) (r : PlainRun) : Type 0 where
  pub accepted : start_refusal p r.list ≡ None
  pub stands : standing ≡ in_run (run_at p r.list r.tree)
  pub weighed : Weighs (length r.list) (numerator_of p) (denominator_of p) weights

-- the flag says whether a run stands
abbrev pub RunMeans : Plans → Standing → Weights → Bool → Option PlainRun → Type 0
RunMeans P standing weights false None = Unit {0}
RunMeans P standing weights false (Some r) = ⊥
RunMeans P standing weights true None = ⊥
RunMeans P standing weights true (Some r) = Runs (P r.list r.n) standing weights r

-- the fields mean some run, or that none stands
pub record SomeRun (P : Plans) (standing : Standing) (weights : Weights) (running : Bool) : Type 0 where
  pub run : Option PlainRun
  pub means : RunMeans P standing weights running run
