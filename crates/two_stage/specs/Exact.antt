-- Every run of two-stage drawing that stands is sound: what the trait's law asks.
use Rattle.design.specs.Design.{Standing, SoundStanding}
use Rattle.design.specs.Plans.{Plans, SoundPlans}
use mathlib.Core.Logic.{∥∥₁_elim}
use Rattle.design.proofs.Once.{sound_once}
use Rattle.parts.specs.Running.{Tables}
use Rattle.parts.proofs.Stepping.{exact_now}
use Rattle.layers.proofs.Stages.{exact_first, exact_second}
use Rattle.two_stage.specs.Stands.{stands_in, IntactIn}
use Rattle.two_stage.specs.declared.Stage.{Stage}
use Rattle.two_stage.specs.declared.Stage.TheVariants.{Waiting, First, Second}

pub exact_stages : (stage : Stage) (B : Plans) → SoundPlans B → (v : Tables) (st su : Standing) → SoundStanding st → SoundStanding su → IntactIn stage B v st su
    → SoundStanding (stands_in stage B v st su)
exact_stages Waiting B law v st su x y h = tt
exact_stages First B law v st su x y h = exact_first B law v h.drawing.underway.loaded st h.drawing.underway.fits x
exact_stages Second B law v st su x y h = exact_second B law v h.underway.loaded st su h.underway.fits x (exact_now B law v su h.series.underway y)

pub exact_kept : (stage : Stage) (B : Plans) → SoundPlans B → (v : Tables) (st su : Standing) → SoundStanding st → SoundStanding su → ∥ IntactIn stage B v st su ∥₁
    → SoundStanding (stands_in stage B v st su)
exact_kept stage B law v st su x y h = ∥∥₁_elim h (sound_once (stands_in stage B v st su)) (exact_stages stage B law v st su x y)
