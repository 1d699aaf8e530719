-- A survey whose design has just begun, and whose weights are worked out.
use Rattle.std.proofs.Common.{◌≡◌, refl, ℕ, List, length, Ok, Result, ap, subst, ◌∙◌}
use Rattle.design.specs.Faults.{Answers}
use Rattle.design.specs.Design.{Plan, refuses, accepts, Standing, in_run, Began, SoundPlan}
use Rattle.design.specs.Plans.{tree_of, numerator_of, denominator_of}
use Rattle.design.specs.declared.design.Design as Design
use Rattle.design.specs.declared.fault.Fault.{Fault}
use Rattle.design.specs.declared.row.Row.{Row}
use Rattle.design.proofs.Firsts.{accepted}
use Rattle.weights.specs.Begun.{OfPrescribed}
use Rattle.weights.specs.Of.{Weighs}
use Rattle.weights.specs.Scale.{weights_refusal}
use Rattle.weights.specs.declared.Weights.{Weights}
use Rattle.plain_survey.specs.Calls.{start_refusal, first_run}
use Rattle.plain_survey.specs.Laws.{run_at}
use Rattle.survey.specs.Runs.{Runs}

-- the run that the plan begins stands, and the answer is by the refusals of scale and weights
pub record Judged (p : Plan) (list : List Row) (st : Standing) (w : Weights) (result : Result (Unit {0}) Fault) : Type 0 where
  pub stands : st ≡ in_run (run_at p list (tree_of p))
  pub answers : Answers (start_refusal p list) (λ _. Weighs (length list) (numerator_of p) (denominator_of p) w) result

pub judged : {D : Type 0} (G : Design.Ghosts D) (design : D) (p : Plan) (list : List Row) (w : Weights) (result : Result (Unit {0}) Fault)
    → Began {U = Unit {0}} p (Ok tt) (G.tree design) → SoundPlan list p
    → OfPrescribed G design (length list) (λ num den. Answers (weights_refusal (length list) num den) (λ _. Weighs (length list) num den w) result) → Judged p list (G.tree design) w result
judged G design (refuses f) list w result b s h = absurd b
judged G design (accepts num run) list w result b s h = record {
  stands = b ∙ ap (λ n. in_run (record { tree = run.tree; units = n; denominator = run.denominator })) s.units_listed;
  answers = h list num run (record { stands = b; sound = s; all = refl });
}

-- accepted, the first run stands
pub first_runs : {D : Type 0} (G : Design.Ghosts D) (design : D) (p : Plan) (list : List Row) (n : ℕ) (w : Weights) (result : Result (Unit {0}) Fault)
    → result ≡ Ok tt → Began {U = Unit {0}} p (Ok tt) (G.tree design) → SoundPlan list p
    → OfPrescribed G design (length list) (λ num den. Answers (weights_refusal (length list) num den) (λ _. Weighs (length list) num den w) result) → Runs p (G.tree design) w (first_run p list n)
first_runs G design p list n w result is b s h =
    let j = judged G design p list w result b s h in
    let a = accepted (start_refusal p list) _ tt (subst (Answers (start_refusal p list) _) is j.answers) in
    record { accepted = a.0; stands = j.stands; weighed = a.1 }
