-- What the design of a survey answers while a run stands.
use Rattle.std.proofs.Common.{◌≡◌, ℕ, Bool, true, false, Result, sym, subst, Some, None, Option}
use Rattle.std.proofs.lemmas.Bool.{true≢false}
use Rattle.design.specs.Faults.{told}
use Rattle.design.specs.Design.{Standing, Shared, Taken, SoundStanding}
use Rattle.design.specs.Plans.{Plans}
use Rattle.design.specs.declared.fault.Fault.{Fault}
use Rattle.design.specs.Fractions.{Fraction}
use Rattle.weights.specs.declared.Weights.{Weights}
use Rattle.plain_survey.specs.States.{PlainRun}
use Rattle.plain_survey.specs.Calls.{taken_answer, share_answer}
use Rattle.plain_survey.proofs.Shares.{share_told, taken_told}
use Rattle.survey.specs.Runs.{Runs, RunMeans}

-- what holds of each run that may stand, holds of the run
pub when_running : (P : Plans) (st : Standing) (w : Weights) (b : Bool) (run : Option PlainRun) (Q : Option PlainRun → Type 0) → b ≡ true → RunMeans P st w b run
    → ((r : PlainRun) → Runs (P r.list r.n) st w r → Q (Some r)) → Q run
when_running P st w false run Q e m h = absurd (true≢false (sym e))
when_running P st w true None Q e m h = absurd m
when_running P st w true (Some r) Q e m h = h r m

pub share_when : (P : Plans) (st : Standing) (w : Weights) (b : Bool) (run : Option PlainRun) (k : ℕ) (result : Result Fraction Fault) → b ≡ true → RunMeans P st w b run
    → SoundStanding st → Shared st k result → told result ≡ share_answer P run k
share_when P st w b run k result e m sound shared =
    when_running P st w b run (λ s. told result ≡ share_answer P s k) e m
    (λ r h. share_told P r k result (subst SoundStanding h.stands sound) (subst (λ s. Shared s k result) h.stands shared))

pub taken_when : (P : Plans) (st : Standing) (w : Weights) (b : Bool) (run : Option PlainRun) (k : ℕ) (result : Result Bool Fault) → b ≡ true → RunMeans P st w b run
    → Taken st k result → told result ≡ taken_answer run k
taken_when P st w b run k result e m taken =
    when_running P st w b run (λ s. told result ≡ taken_answer s k) e m
    (λ r h. taken_told P r k result (subst (λ s. Taken s k result) h.stands taken))
