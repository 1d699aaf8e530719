use Rattle.layers.specs.Stratified.{allot_refusal}
use Rattle.layers.specs.TwoStage.{two_stage_plan, within_refusal}
use Rattle.piles.proofs.Settings.{makes_over_two, unmade_next}
use Rattle.piles.proofs.making.stages_of_strata.Goals as goal

pub returns-in_err-units : goal.returns-in_err-units
returns-in_err-units c =
    unmade_next (allot_refusal c.args.first.now) (allot_refusal c.args.second.now) _ _ _ _ c.in_ok-clusters.clusters c.in_err-units.field-0.0 _ c.from_residual-in_err-units.ensures.1 c.in_ok-clusters.ensures c.in_err-units.ensures

pub returns : goal.returns
returns c =
    makes_over_two _ _ _ (two_stage_plan c.args.m) _ _ (allot_refusal c.args.first.now) (allot_refusal c.args.second.now) (within_refusal c.args.m) _ _ c.stages.result c.in_ok-clusters.ensures c.in_ok-units.ensures c.stages.ensures
