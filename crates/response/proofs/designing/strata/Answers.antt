use Rattle.std.proofs.Common.{◌≡◌, None, Err, Option, subst}
use Rattle.design.specs.Faults.{Answers, Refusal}
use Rattle.design.specs.declared.fault.Fault.{Fault}
use Rattle.response.proofs.Frames.{takes_allotted}
use Rattle.response.proofs.designing.strata.Goals as goal

-- where nothing refuses, no fault is answered
not_refused : {A : Type 0} (o : Option Refusal) (Q : A → Type 0) (e : Fault) → o ≡ None → Answers o Q (Err e) → ⊥
not_refused o Q e none h = subst (λ o. Answers o Q (Err e)) none h

pub returns-in_err-allot : goal.returns-in_err-allot
returns-in_err-allot g c = absurd (not_refused _ _ _ (takes_allotted c.args.takes.now c.requires) c.in_err-allot.ensures.answers)
