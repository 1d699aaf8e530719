-- Worked examples of the rules, as facts about the definitions.
use Rattle.std.specs.Prelude.{◌≡◌, ℕ, ◌*◌, not, ◌||◌, ℤ, pos, neg_ℤ, ◌+ℤ◌, ◌*ℤ◌, List, [], ◌∷◌, Ok, None}
use Rattle.outcomes.specs.Trees.{Share, weight, weight_of, inclusion, expectℤ}
use Rattle.design.specs.Faults.{refusal_at}
use Rattle.design.specs.Lists.{total}
use Rattle.design.specs.Design.{Plan, refuses}
use Rattle.design.specs.Plans.{tree_of, share_of}
use Rattle.design.specs.Fractions.{fraction}
use Rattle.design.specs.declared.row.Row.{Row}
use Rattle.methods.specs.Plain.{goals}
use Rattle.methods.specs.Systematic.{systematic_plan}
use Rattle.methods.specs.Pivotal.{pivotal_plan}
use Rattle.methods.specs.Poisson.{poisson_plan}
use Rattle.layers.specs.Stratified.{stratified_plan}
use Rattle.layers.specs.TwoStage.{two_stage_plan}
use Rattle.throws.specs.Words.{generator, limit, thrown, left}
use Rattle.plain_survey.specs.Calls.{scale, weight_in, start_refusal}
use Rattle.plain_survey.specs.Kinds.{money_kind}
use Rattle.plain_survey.specs.Reports.{row_of_reading}
use Rattle.plain_survey.specs.Laws.{entry, true_total}
use Rattle.worked.specs.Terms.{sized, in_stratum, in_cluster, each_of, ways_met, Takes, AlwaysTakes, OfPlainDesigns, entries_reported, Reports}

-- ---- systematic drawing on sizes 1, 2, 3 with n 2
abbrev pub sizes_1_2_3 : List Row
sizes_1_2_3 = sized 1 ∷ sized 2 ∷ sized 3 ∷ []

abbrev pub systematic_example : Plan
systematic_example = systematic_plan sizes_1_2_3 2

pub record SystematicDrawing : Type 0 where
  pub total_size : total sizes_1_2_3 ≡ 6
  pub goals_are : goals sizes_1_2_3 2 ≡ 2 ∷ 4 ∷ 6 ∷ []
  pub one_throw : ways_met (tree_of systematic_example) (0 ∷ []) ≡ 6 ∷ []
  pub inclusion_weights : each_of 3 (λ k. inclusion k (tree_of systematic_example)) ≡ 2 ∷ 4 ∷ 6 ∷ []
  pub throw_0 : Takes systematic_example (0 ∷ []) (0 ∷ 2 ∷ [])
  pub throw_1 : Takes systematic_example (1 ∷ []) (0 ∷ 2 ∷ [])
  pub throw_2 : Takes systematic_example (2 ∷ []) (1 ∷ 2 ∷ [])
  pub throw_3 : Takes systematic_example (3 ∷ []) (1 ∷ 2 ∷ [])
  pub throw_4 : Takes systematic_example (4 ∷ []) (1 ∷ 2 ∷ [])
  pub throw_5 : Takes systematic_example (5 ∷ []) (1 ∷ 2 ∷ [])

-- ---- estimates there, of the amounts 5, -4, 7: outcomes of weight 2 in all hold units 0 and 2, and those of weight 4 units 1 and 2
abbrev pub amounts : List ℤ
amounts = pos 5 ∷ neg_ℤ (pos 4) ∷ pos 7 ∷ []

-- the outcomes' reports, each times its outcome's weight, added up
abbrev pub reports_together : ℤ
reports_together = expectℤ (λ u. entry (entries_reported systematic_plan sizes_1_2_3 2 amounts u) 0) (tree_of systematic_example)

pub record Estimates : Type 0 where
  pub accepted : start_refusal systematic_example sizes_1_2_3 ≡ None
  pub shares : each_of 3 (share_of systematic_example) ≡ fraction 2 6 ∷ fraction 4 6 ∷ fraction 6 6 ∷ []
  pub scale_is : scale systematic_example sizes_1_2_3 ≡ 2
  pub design_weights : each_of 3 (weight_in systematic_example sizes_1_2_3) ≡ 6 ∷ 3 ∷ 2 ∷ []
  pub report_of_0_and_2 : Reports systematic_plan sizes_1_2_3 2 amounts (0 ∷ 2 ∷ []) (pos 44)
  pub report_of_1_and_2 : Reports systematic_plan sizes_1_2_3 2 amounts (1 ∷ 2 ∷ []) (pos 2)
  pub total_weight : weight (tree_of systematic_example) ≡ 6
  pub true_total_is : true_total 3 (row_of_reading money_kind amounts) 0 ≡ pos 8
  pub reports_of_both : reports_together ≡ pos 2 *ℤ pos 44 +ℤ pos 4 *ℤ pos 2
  pub reports_come_to : reports_together ≡ pos 96
  pub right_on_the_average : reports_together ≡ pos (6 * 2) *ℤ pos 8

-- ---- ordered pivotal drawing on sizes 1, 1, 1, 3 with n 1
abbrev pub sizes_1_1_1_3 : List Row
sizes_1_1_1_3 = sized 1 ∷ sized 1 ∷ sized 1 ∷ sized 3 ∷ []

abbrev pub pivotal_example : Plan
pivotal_example = pivotal_plan sizes_1_1_1_3 1

pub record PivotalDrawing : Type 0 where
  pub total_size : total sizes_1_1_1_3 ≡ 6
  pub three_throws : ways_met (tree_of pivotal_example) (0 ∷ 0 ∷ 0 ∷ []) ≡ 2 ∷ 3 ∷ 6 ∷ []
  pub throws_0_0_0 : Takes pivotal_example (0 ∷ 0 ∷ 0 ∷ []) (0 ∷ [])

-- ---- Poisson drawing on sizes 1, 1 with n 1
abbrev pub sizes_1_1 : List Row
sizes_1_1 = sized 1 ∷ sized 1 ∷ []

abbrev pub poisson_example : Plan
poisson_example = poisson_plan sizes_1_1 1

pub record PoissonDrawing : Type 0 where
  pub two_throws : ways_met (tree_of poisson_example) (1 ∷ 1 ∷ []) ≡ 2 ∷ 2 ∷ []
  pub throws_1_1 : Takes poisson_example (1 ∷ 1 ∷ []) []
  pub total_weight : weight (tree_of poisson_example) ≡ 8
  pub weight_of_none : weight_of (λ u. not (u 0 || u 1)) (tree_of poisson_example) ≡ 2
  pub report_of_none : (x y : ℤ) → Reports poisson_plan sizes_1_1 1 (x ∷ y ∷ []) [] (pos 0)

-- ---- plain drawing with n 2 on sizes 1, 5, where the goal 10 is above the total 6; and on sizes 3, 3, where both goals are the total
abbrev pub sizes_1_5 : List Row
sizes_1_5 = sized 1 ∷ sized 5 ∷ []

abbrev pub sizes_3_3 : List Row
sizes_3_3 = sized 3 ∷ sized 3 ∷ []

pub record GoalsAndTotal : Type 0 where
  pub goal_above_refused : OfPlainDesigns (λ P. P sizes_1_5 2 ≡ refuses (refusal_at 6 1))
  pub unit_0_always_taken : OfPlainDesigns (λ P. AlwaysTakes (P sizes_3_3 2) 0)
  pub unit_1_always_taken : OfPlainDesigns (λ P. AlwaysTakes (P sizes_3_3 2) 1)

-- ---- stratified systematic drawing on strata of sizes 1, 3 and 1, 1 with takes 1 and 1
abbrev pub two_strata : List Row
two_strata = in_stratum 0 1 ∷ in_stratum 0 3 ∷ in_stratum 1 1 ∷ in_stratum 1 1 ∷ []

abbrev pub stratified_example : Plan
stratified_example = stratified_plan systematic_plan (1 ∷ 1 ∷ []) two_strata 2

pub record StratifiedDrawing : Type 0 where
  pub two_throws : ways_met (tree_of stratified_example) (0 ∷ 0 ∷ []) ≡ 4 ∷ 2 ∷ []
  pub total_weight : weight (tree_of stratified_example) ≡ 64
  pub weight_of_unit_1 : inclusion 1 (tree_of stratified_example) ≡ 48
  pub share_of_unit_1 : share_of stratified_example 1 ≡ fraction 3 4

-- ---- two-stage systematic drawing on clusters of sizes 1, 1 and 2, 2 with n 1 and m 1
abbrev pub two_clusters : List Row
two_clusters = in_cluster 0 1 ∷ in_cluster 0 1 ∷ in_cluster 1 2 ∷ in_cluster 1 2 ∷ []

abbrev pub two_stage_example : Plan
two_stage_example = two_stage_plan 1 systematic_plan systematic_plan two_clusters 1

pub record TwoStageDrawing : Type 0 where
  pub share_of_unit_0 : share_of two_stage_example 0 ≡ fraction 2 12
  pub share_of_unit_2 : share_of two_stage_example 2 ≡ fraction 8 24
  pub exact_of_unit_0 : Share 0 2 12 (tree_of two_stage_example)
  pub exact_of_unit_2 : Share 2 8 24 (tree_of two_stage_example)

-- ---- a throw with 6 ways: the last word that serves, and the first that is passed over, whatever words come after it
pub record ThrowOfSix : Type 0 where
  pub limit_is : limit 6 ≡ 4294967292
  pub last_served : (ws : List ℕ) → thrown 6 (4294967291 ∷ ws) ≡ Ok 5
  pub then_left : (ws : List ℕ) → left 6 (4294967291 ∷ ws) ≡ ws
  pub first_passed_over : (ws : List ℕ) → thrown 6 (4294967292 ∷ ws) ≡ thrown 6 ws
  pub with_those_left : (ws : List ℕ) → left 6 (4294967292 ∷ ws) ≡ left 6 ws

-- ---- the table
pub record WorkedExamples : Type 0 where
  pub systematic_drawing : SystematicDrawing
  pub estimates : Estimates
  pub pivotal_drawing : PivotalDrawing
  pub poisson_drawing : PoissonDrawing
  pub goals_and_total : GoalsAndTotal
  pub stratified_drawing : StratifiedDrawing
  pub two_stage_drawing : TwoStageDrawing
  pub throw_of_six : ThrowOfSix
  pub generator_of_seed_1 : generator 1 2 ≡ 270369 ∷ 67634689 ∷ []
