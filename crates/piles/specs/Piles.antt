-- Two whole piles by the settings of their layers: what each does with a list and a sample size, and which setting is refused.
use Rattle.std.specs.Prelude.{ℕ, List, [], ◌∷◌, Option}
use Rattle.design.specs.Faults.{Refusal, first_of}
use Rattle.design.specs.Plans.{Plans}
use Rattle.layers.specs.Stratified.{stratified_plan, allot_refusal}
use Rattle.layers.specs.TwoStage.{two_stage_plan, within_refusal}
use Rattle.methods.specs.Pivotal.{pivotal_plan}
use Rattle.methods.specs.Systematic.{systematic_plan}

-- by strata with these takes: clusters by the pivotal method, then m units of each by the systematic one
abbrev pub strata_of_stages_plan : List ℕ → ℕ → Plans
strata_of_stages_plan takes m = stratified_plan (two_stage_plan m pivotal_plan systematic_plan) takes

-- the first refusal of its settings, from the lowest layer up
abbrev pub strata_of_stages_refusal : List ℕ → ℕ → Option Refusal
strata_of_stages_refusal takes m = first_of (within_refusal m ∷ allot_refusal takes ∷ [])

-- clusters by the pivotal method in strata with the takes `first`, then m units of each by the systematic one in strata with the takes
-- `second`
abbrev pub stages_of_strata_plan : ℕ → List ℕ → List ℕ → Plans
stages_of_strata_plan m first second = two_stage_plan m (stratified_plan pivotal_plan first) (stratified_plan systematic_plan second)

-- the first refusal of its settings, from the lowest layers up
abbrev pub stages_of_strata_refusal : ℕ → List ℕ → List ℕ → Option Refusal
stages_of_strata_refusal m first second = first_of (allot_refusal first ∷ allot_refusal second ∷ within_refusal m ∷ [])
