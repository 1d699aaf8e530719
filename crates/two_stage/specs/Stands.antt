-- What stands of two-stage drawing, by its stage, over the meanings G of the first design and H of the second.
use Rattle.std.specs.Prelude.{◌≡◌, Ok, Err, Result}
use Rattle.design.specs.Design.{Standing, no_run}
use Rattle.design.specs.declared.design.Design as Design
use Rattle.design.specs.declared.fault.Fault.{Fault}
use Rattle.design.specs.Plans.{Plans}
use Rattle.parts.specs.Running.{Tables, standing_of}
use Rattle.layers.specs.Stages.{in_first, in_second, Drawing, InFirst, InSecond}
use Rattle.series.specs.Of.{tables_of}
use Rattle.series.specs.declared.Series.{Series}
use Rattle.two_stage.specs.declared.Stage.{Stage}
use Rattle.two_stage.specs.declared.Stage.TheVariants.{Waiting, First, Second}

-- the run that stands, by the stage
abbrev pub stands_in : Stage → Plans → Tables → Standing → Standing → Standing
stands_in Waiting B v st su = no_run
stands_in First B v st su = in_first B v st
stands_in Second B v st su = in_second B v st (standing_of B v su)

-- the parts of the state belong together, by the stage
abbrev pub IntactIn : Stage → Plans → Tables → Standing → Standing → Type 0
IntactIn Waiting B v st su = Unit {0}
IntactIn First B v st su = InFirst B v st su
IntactIn Second B v st su = InSecond B v st su

-- the same of both designs
abbrev pub standing_at : {A B : Type 0} → Design.Ghosts A → Design.Ghosts B → Stage → A → Series B → Standing
standing_at G H stage first second = stands_in stage (H.plan second.below) (tables_of second) (G.tree first) (H.tree second.below)

abbrev pub IsIntact : {A B : Type 0} → Design.Ghosts A → Design.Ghosts B → Stage → A → Series B → Type 0
IsIntact G H stage first second = IntactIn stage (H.plan second.below) (tables_of second) (G.tree first) (H.tree second.below)

-- the first design runs, and may have finished
abbrev pub IsDrawing : {A B : Type 0} → Design.Ghosts A → Design.Ghosts B → A → Series B → Type 0
IsDrawing G H first second = Drawing (H.plan second.below) (tables_of second) (G.tree first) (H.tree second.below)

-- what stands while the first design runs
abbrev pub drawing : {A B : Type 0} → Design.Ghosts A → Design.Ghosts B → A → Series B → Standing
drawing G H first second = in_first (H.plan second.below) (tables_of second) (G.tree first)

-- a stage at which the parts of the state belong together, and the run that stands is the one that stood while the first design ran
abbrev pub Settles : {A B : Type 0} → Design.Ghosts A → Design.Ghosts B → A → Series B → Series B → Result Stage Fault → Type 0
Settles G H first old new (Ok stage) = IsIntact G H stage first new × (standing_at G H stage first new ≡ drawing G H first old)
Settles G H first old new (Err e) = ⊥
