-- A report of a finished run: what it answers, and what it leaves in the caller's total.
use Rattle.std.proofs.Common.{◌≡◌, ℕ, ◌<◌, Bool, true, List, length, None, Ok, Result, sym, ap, ◌∙◌, slice_index, arith, Some, Option, replicate, pos, false}
use Rattle.std.proofs.lemmas.Bool.{false≢true}
use Rattle.outcomes.specs.Sums.{count}
use Rattle.outcomes.specs.Trees.{Sample, finished}
use Rattle.design.specs.Lists.{first}
use Rattle.design.specs.Design.{Standing}
use Rattle.design.specs.Plans.{Plans, numerator_of, denominator_of, outcome}
use Rattle.design.specs.declared.fault.Fault.{Fault}
use Rattle.weights.specs.Scale.{design_weight}
use Rattle.weights.specs.Of.{scale_in, weights_in}
use Rattle.weights.specs.declared.Weights.{Weights}
use Rattle.plain_survey.specs.States.{PlainRun}
use Rattle.plain_survey.specs.Calls.{answer, weight_in}
use Rattle.plain_survey.specs.Reports.{has_outcome, Kind, Tally, unlawful_at, row_of_reading, added, report_of, unless, reported, report_answer, report_tally}
use Rattle.plain_survey.specs.Laws.{run_at}
use Rattle.plain_survey.proofs.Reports.{added_same, finished_is, unrefused, light}
use Rattle.survey.specs.Adding.{Finished, Addable, Adds}
use Rattle.survey.specs.Runs.{RunMeans}

-- with n units taken: what adding them answered, what report answers, and what is left in the total
pub record Given {R : Type 0} (kind : Kind R) (P : Plans) (run : Option PlainRun) (readings : List R) (old new : Tally) (scaled : ℕ) (result : Result ℕ Fault) : Type 0 where
  pub n : ℕ
  pub number : result ≡ Ok n
  pub told : report_answer kind P run readings ≡ Ok (scaled, n)
  pub left : new ≡ report_tally kind P run readings old

pub given : {R : Type 0} (kind : Kind R) (P : Plans) (st : Standing) (w : Weights) (b : Bool) (run : Option PlainRun) (readings : List R) (old new : Tally) (result : Result ℕ Fault)
    → RunMeans P st w b run → has_outcome run ≡ true → length readings ≡ length (weights_in w) → first (length readings) (unlawful_at kind readings) ≡ None
    → ((u : Sample) → Finished st (length readings) u → Addable kind (weights_in w) readings → Adds kind (weights_in w) readings u new result)
    → Given kind P run readings old new (scale_in w) result
given kind P st w b None readings old new result m ended many lawful adds = absurd (false≢true ended)
given kind P st w false (Some r) readings old new result m ended many lawful adds = absurd m
given kind P st w true (Some r) readings old new result h ended many lawful adds =
    let p = P r.list r.n in
    let u = outcome r.tree in
    let units = length r.list in
    let done : r.tree ≡ finished u = finished_is r.tree ended in
    let long : length readings ≡ units = many ∙ h.weighed.have_weights.all_weighed in
    let same : (k : ℕ) → k < units → slice_index (weights_in w) k ≡ weight_in p r.list k =
    λ k l. h.weighed.have_weights.weights_are k l ∙ ap (λ x. design_weight x (numerator_of p k) (denominator_of p k)) h.weighed.scale_is in
    let a = adds u (record { run = run_at p r.list r.tree; stands = h.stands; done = done; units_are = sym long })
    (record { light = λ k l. let q : k < units = omega (arith, l, long) in omega (arith, same k q, light p r.list h.accepted k q); lawful = lawful }) in
    let clear = unrefused kind r u readings done long lawful in
    let number : count (length readings) u ≡ count units u = ap (λ x. count x u) long in
    record {
      n = count units u;
      number = a.number ∙ ap Ok number;
      told = ap (λ f. answer f (reported P r)) clear ∙ ap (λ x. Ok (x, count units u)) (sym h.weighed.scale_is);
      left =
          ap (λ es. record { entries = es; additions = new.additions }) (a.entries ∙ ap (λ x. added x u (slice_index (weights_in w)) (row_of_reading kind readings) (replicate kind.width (pos 0))) long
          ∙ added_same units u (slice_index (weights_in w)) (weight_in p r.list) (row_of_reading kind readings) (replicate kind.width (pos 0)) same)
          ∙ ap (λ x. record { entries = added units u (weight_in p r.list) (row_of_reading kind readings) (replicate kind.width (pos 0)); additions = x }) (a.additions ∙ number)
          ∙ ap (λ f. unless f (report_of kind P r u readings) old) (sym clear);
    }
