use Rattle.layers.specs.Stratified.{stratified_plan, allot_refusal}
use Rattle.layers.specs.TwoStage.{within_refusal}
use Rattle.piles.proofs.Settings.{makes_over}
use Rattle.piles.proofs.making.strata_of_stages.Goals as goal

pub returns : goal.returns
returns c =
    let takes = c.args.takes.now in
    makes_over _ _ (λ below. stratified_plan below takes) _ (within_refusal c.args.m) (allot_refusal takes) _ c.strata.result c.in_ok-stages.ensures c.strata.ensures
