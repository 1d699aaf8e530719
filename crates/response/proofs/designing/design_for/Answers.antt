use Rattle.std.proofs.Common.{◌∙◌, ap}
use Rattle.layers.specs.Stratified.{stratified_plan}
use Rattle.response.proofs.Failures.{gets_more}
use Rattle.response.proofs.designing.design_for.Goals as goal

pub returns : goal.returns
returns c =
    let takes = c.as_slice.result.now in
    gets_more _ _ c.strata.result (λ _ planned. planned ∙ ap (λ below. stratified_plan below takes) c.in_ok-stages.ensures ∙ ap (stratified_plan _) c.as_slice.ensures.items) c.strata.ensures
