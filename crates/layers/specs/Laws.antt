-- The laws of the layers, as statements.
use Rattle.std.specs.Prelude.{ℕ, List}
use Rattle.design.specs.Plans.{Plans, SoundPlans}
use Rattle.layers.specs.Stratified.{stratified_plan}
use Rattle.layers.specs.TwoStage.{two_stage_plan}

-- a layer's plans are sound wherever those of the designs below are
abbrev pub StratifiedSound : Type 0
StratifiedSound = (B : Plans) → SoundPlans B → (takes : List ℕ) → SoundPlans (stratified_plan B takes)

abbrev pub TwoStageSound : Type 0
TwoStageSound = (A B : Plans) → SoundPlans A → SoundPlans B → (m : ℕ) → SoundPlans (two_stage_plan m A B)
