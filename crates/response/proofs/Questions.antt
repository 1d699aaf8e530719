-- What a survey answers of the units of a run that stands.
use Rattle.std.proofs.Common.{◌≡◌, ℕ, ◌<◌, Bool, not, length, Some, None, Ok, Result, ap, ◌∙◌}
use Rattle.std.proofs.lemmas.Bool.{lt-ltb}
use Rattle.outcomes.specs.Trees.{Sample, finished}
use Rattle.design.specs.Faults.{told, refused_if}
use Rattle.design.specs.Plans.{Plans}
use Rattle.design.specs.declared.fault.Fault.{Fault}
use Rattle.design.specs.Fractions.{Fraction}
use Rattle.plain_survey.specs.States.{PlainRun}
use Rattle.plain_survey.specs.Calls.{answer, unit_refusal, taken_answer, share_answer, share_now, in_every}
use Rattle.response.proofs.Values.{told_value}

-- no question about a unit of the list is refused
unit_answered : (r : PlainRun) (k : ℕ) → k < length r.list → unit_refusal r k ≡ None
unit_answered r k l = ap (λ b. refused_if (not b) 19) (lt-ltb k (length r.list) l)

pub share_answered : (P : Plans) (r : PlainRun) (k : ℕ) (result : Result Fraction Fault) → k < length r.list → told result ≡ share_answer P (Some r) k → result ≡ Ok (share_now P r k)
share_answered P r k result l e = told_value result (share_now P r k) (e ∙ ap (λ o. answer o (share_now P r k)) (unit_answered r k l))

-- in a run that has come to its outcome, a unit is taken if the outcome has it
pub taken_answered : (r : PlainRun) (u : Sample) (k : ℕ) (result : Result Bool Fault) → r.tree ≡ finished u → k < length r.list → told result ≡ taken_answer (Some r) k → result ≡ Ok (u k)
taken_answered r u k result done l e =
    told_value result (u k) (e ∙ ap (λ o. answer o (in_every k r.tree)) (unit_answered r k l) ∙ ap (λ t. Ok (in_every k t)) done)
