-- What reporting lawful readings answers and leaves, of a run that has come to its outcome.
use Rattle.std.proofs.Common.{ℕ, ◌≡◌, true, not, All, IsTrue, List, length, map, Some, None, Ok, Result, ap, ◌∙◌, arith}
use Rattle.std.proofs.lemmas.List.{length-map}
use Rattle.std.proofs.lemmas.List.Elements.{All-get_or, All-map}
use Rattle.design.specs.Faults.{told}
use Rattle.design.specs.Lists.{first}
use Rattle.design.specs.Plans.{Plans, outcome}
use Rattle.design.specs.declared.fault.Fault.{Fault}
use Rattle.design.proofs.Firsts.{none_first}
use Rattle.plain_survey.specs.States.{PlainRun}
use Rattle.plain_survey.specs.Calls.{answer}
use Rattle.plain_survey.specs.Reports.{Kind, Tally, is_finished, unlawful_at, unless, report_refusal, report_of, reported, report_answer, report_tally}
use Rattle.plain_survey.proofs.Reports.{finished_is, unrefused}
use Rattle.response.proofs.Values.{told_value}

-- where each reading is lawful, none is the first unlawful one
none_unlawful : {R : Type 0} (kind : Kind R) (readings : List R) → All (λ x. IsTrue (kind.is_lawful x)) readings → first (length readings) (unlawful_at kind readings) ≡ None
none_unlawful kind readings lawful =
    none_first (length readings) (unlawful_at kind readings)
    (λ k l. ap not (All-get_or IsTrue (map kind.is_lawful readings) k true (omega (arith, length-map readings kind.is_lawful)) (All-map IsTrue kind.is_lawful readings lawful)))

reported_unrefused : {R : Type 0} (kind : Kind R) (r : PlainRun) (readings : List R) → is_finished r.tree ≡ true → length readings ≡ length r.list
    → All (λ x. IsTrue (kind.is_lawful x)) readings → report_refusal kind r readings ≡ None
reported_unrefused kind r readings ended many lawful =
    unrefused kind r (outcome r.tree) readings (finished_is r.tree ended) many (none_unlawful kind readings lawful)

pub report_answered : {R : Type 0} (kind : Kind R) (P : Plans) (r : PlainRun) (readings : List R) (result : Result (ℕ × ℕ) Fault) → is_finished r.tree ≡ true → length readings ≡ length r.list
    → All (λ x. IsTrue (kind.is_lawful x)) readings → told result ≡ report_answer kind P (Some r) readings → result ≡ Ok (reported P r)
report_answered kind P r readings result ended many lawful e =
    told_value result (reported P r) (e ∙ ap (λ o. answer o (reported P r)) (reported_unrefused kind r readings ended many lawful))

pub report_left : {R : Type 0} (kind : Kind R) (P : Plans) (r : PlainRun) (readings : List R) (old new : Tally) → is_finished r.tree ≡ true → length readings ≡ length r.list
    → All (λ x. IsTrue (kind.is_lawful x)) readings → new ≡ report_tally kind P (Some r) readings old → new ≡ report_of kind P r (outcome r.tree) readings
report_left kind P r readings old new ended many lawful e =
    e ∙ ap (λ o. unless o (report_of kind P r (outcome r.tree) readings) old) (reported_unrefused kind r readings ended many lawful)
