-- Every survey means some state.
use mathlib.Core.Logic.{∥∥₁_map}
use Rattle.std.proofs.Common.{refl}
use Rattle.design.specs.declared.design.Design as Design
use Rattle.throws.specs.declared.source.Source as Source
use Rattle.survey.specs.Means.{AllMeanSome, words}

pub all_mean_some : {D S : Type 0} (d : Design.Ghosts D) (w : Source.Ghosts S) → AllMeanSome d w
all_mean_some d w s = ∥∥₁_map s.meant (λ m. (record { words = words w s; run = m.run }, record { waiting = refl; run = m.means }))
