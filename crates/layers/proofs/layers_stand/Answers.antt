use Rattle.layers.proofs.StratifiedPlans.{stratified_sound}
use Rattle.layers.proofs.TwoStagePlans.{two_stage_sound}
use Rattle.layers.proofs.layers_stand.Goals as goal

pub returns : goal.returns
returns c = record { stratified_sound = stratified_sound; two_stage_sound = two_stage_sound }
