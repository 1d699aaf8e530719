-- What a call promises, in the words of the plain survey's calls.
use Rattle.std.proofs.Common.{◌≡◌, refl, ℕ, List, None, Ok, Err, Option, Result, arith}
use Rattle.std.specs.Prelude.{IfOk}
use Rattle.design.specs.Faults.{Refusal, told}
use Rattle.design.specs.declared.fault.Fault.{Fault}
use Rattle.design.specs.declared.row.Row.{Row}
use Rattle.design.specs.Plans.{Plans}
use Rattle.plain_survey.specs.Requests.{kind_in}
use Rattle.plain_survey.specs.Calls.{answer, first_run}
use Rattle.plain_survey.specs.Laws.{FairStart}
use Rattle.plain_survey.specs.Asking.{FairStartFor, reported}
use Rattle.plain_survey.proofs.Averages.{fair_report}

-- where nothing refuses, an answer is a value
pub if_unrefused : {A : Type 0} (o : Option Refusal) (a : A) (r : Result A Fault) (X : Type 0) → told r ≡ answer o a → IfOk r (λ _. X) → o ≡ None → X
if_unrefused o a (Ok b) X e h none = h
if_unrefused o a (Err f) X e h none = absurd (let z : ◌≡◌ {A = ℕ} 0 1 = cc in (let y : ⊥ = omega arith in y))

pub fair_start : (P : Plans) (list : List Row) (n : ℕ) → FairStart (P list n) list → FairStartFor P list n
fair_start P list n f = record {
  shares = f.shares;
  reports = λ q rows. fair_report (kind_in q) P (first_run (P list n) list n) refl f.totals q.readings rows;
}

-- two reports that are replied alike were answered alike
pub same_report : (a b : Result (ℕ × ℕ) Refusal) → reported a ≡ reported b → a ≡ b
same_report a b e = cc
