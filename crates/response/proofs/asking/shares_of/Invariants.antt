use Rattle.std.proofs.Common.{◌≡◌, length}
use Rattle.plain_survey.specs.States.{PlainRun}
use Rattle.plain_survey.specs.Calls.{share_now}
use Rattle.survey.specs.Means.{plans}
use Rattle.response.specs.Runs.{StandsAt, in_order}
use Rattle.response.proofs.asking.shares_of.Given as goal

abbrev pub invariant-loop-k : goal.invariant-loop-k
invariant-loop-k g l =
    (r : PlainRun) → StandsAt g.D.Design g.S.Source l.survey r → l.units ≡ length r.list
    → l.shares.items ≡ in_order l.k (share_now (plans g.D.Design l.survey) r)
