-- An accepted report leaves estimates in its total.
use Rattle.std.specs.Prelude.{All}
use Rattle.std.proofs.Common.{◌≡◌, refl, ℕ, zero, suc, ◌<◌, Bool, true, false, ℤ, List, [], ◌∷◌, length, Ok, Some, None, Option, sym, ap, subst, slice_index_or, arith}
use Rattle.design.specs.Design.{Standing, SoundPlan}
use Rattle.design.specs.Plans.{Plans}
use Rattle.design.specs.declared.row.Row.{Row}
use Rattle.weights.specs.declared.Weights.{Weights}
use Rattle.plain_survey.specs.States.{PlainRun}
use Rattle.plain_survey.specs.Calls.{start_refusal}
use Rattle.plain_survey.specs.Reports.{Kind, Tally, report_answer, report_tally}
use Rattle.plain_survey.specs.Requests.{Request, IsFor, change_at, kind_in, request_answer, request_tallies}
use Rattle.plain_survey.specs.Estimates.{Estimates, EstimatesFor, entries_at}
use Rattle.plain_survey.proofs.Expanding.{report_estimates}
use Rattle.survey.specs.Runs.{RunMeans}

-- a run that a survey means was accepted
pub run_accepted : (P : Plans) (standing : Standing) (w : Weights) (b : Bool) (run : Option PlainRun) → RunMeans P standing w b run
    → (r : PlainRun) → run ≡ Some r → start_refusal (P r.list r.n) r.list ≡ None
run_accepted P standing w b run m r e = go b (subst (RunMeans P standing w b) e m)
  where
    go : (b : Bool) → RunMeans P standing w b (Some r) → start_refusal (P r.list r.n) r.list ≡ None
    go false h = absurd h
    go true h = h.accepted

-- rows of a kind are as wide as the kind's
pub all_wide : {R : Type 0} (kind : Kind R) → ((x : R) → kind.is_lawful x ≡ true → length (kind.row x) ≡ kind.width) → (xs : List R)
    → All (λ x. kind.is_lawful x ≡ true → length (kind.row x) ≡ kind.width) xs
all_wide kind rows xs k d l = rows (slice_index_or xs k d)

-- what an accepted report leaves, where so it is of the plain survey
pub left_estimates : {R : Type 0} (kind : Kind R) (P : Plans) (standing : Standing) (w : Weights) (b : Bool) (run : Option PlainRun) (readings : List R) (old : Tally) (es : List ℤ) (scaled n : ℕ)
    → ((list : List Row) (m : ℕ) → SoundPlan list (P list m)) → RunMeans P standing w b run → All (λ x. kind.is_lawful x ≡ true → length (kind.row x) ≡ kind.width) readings
    → report_answer kind P run readings ≡ Ok (scaled, n) → es ≡ (report_tally kind P run readings old).entries → Estimates kind P run readings scaled es
left_estimates kind P standing w b run readings old es scaled n sound m rows told left =
    subst (Estimates kind P run readings scaled) (sym left)
    (report_estimates kind P run readings old scaled n (λ r e. (sound r.list r.n, run_accepted P standing w b run m r e)) rows told)

-- the total that is changed
changed_at : (n : ℕ) (f : Tally → Tally) (ts : List Tally) (d : Tally) → n < length ts → slice_index_or (change_at n f ts) n d ≡ f (slice_index_or ts n d)
changed_at n f [] d l = absurd (omega (arith, l))
changed_at zero f (t ∷ ts) d l = refl
changed_at (suc n) f (t ∷ ts) d l = changed_at n f ts d (omega (arith, l))

-- the same of a report that is asked for
pub asked_estimates : (q : Request) (P : Plans) (standing : Standing) (w : Weights) (b : Bool) (run : Option PlainRun) (ts : List Tally) (scaled n : ℕ)
    → ((list : List Row) (m : ℕ) → SoundPlan list (P list m)) → RunMeans P standing w b run → IsFor (length ts) q
    → request_answer q P run ≡ Ok (scaled, n) → EstimatesFor q P run scaled (request_tallies q P run ts)
asked_estimates q P standing w b run ts scaled n sound m for told =
    let none : Tally = record { entries = []; additions = 0 } in
    left_estimates (kind_in q) P standing w b run q.readings (slice_index_or ts q.into none) (entries_at (request_tallies q P run ts) q.into) scaled n sound m for.rows told
    (ap (λ (t : Tally). t.entries) (changed_at q.into (report_tally (kind_in q) P run q.readings) ts none for.there))
