-- A design in which no run stands.
use Rattle.std.specs.Prelude.{◌≡◌, Option, Result}
use Rattle.design.specs.Design.{no_run}
use Rattle.design.specs.Faults.{Refusal, Answers}
use Rattle.design.specs.Plans.{Plans}
use Rattle.design.specs.declared.design.Design as Design
use Rattle.design.specs.declared.fault.Fault.{Fault}

-- no run stands, and the settings fix these plans
pub record IsIdle {D : Type 0} (G : Design.Ghosts D) (plans : Plans) (s : D) : Type 0 where
  pub plans_are : G.plan s ≡ plans
  pub none_stands : G.tree s ≡ no_run

-- a setting is refused so, or leaves the design with no run and these plans
abbrev pub Sets : {D U : Type 0} → Design.Ghosts D → Option Refusal → Plans → D → Result U Fault → Type 0
Sets G refusal plans new result = Answers refusal (λ _. IsIdle G plans new) result
