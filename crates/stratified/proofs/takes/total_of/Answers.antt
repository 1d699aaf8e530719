use Rattle.std.proofs.Common.{◌∙◌, rules}
use borrow.Author.Tests.{tests}
use Rattle.std.proofs.lemmas.Iterator.{YieldsList-from_slice, YieldsList-from_map}
use Rattle.std.proofs.lemmas.Iterator.Consumers.{YieldsList-at, sum_by_from_yields_List}
use Rattle.parts.proofs.Totals.{sum_listed}
use Rattle.stratified.proofs.takes.total_of.Goals as goal

pub returns : goal.returns
returns c =
    let takes = c.args.takes.now in
    sum_by_from_yields_List (λ t. t) takes c.map.result _ c.sum.ensures.ran
    (YieldsList-from_map _ (λ t. t) (YieldsList-at c.map.ensures.source (YieldsList-from_slice takes cc)) c.map.ensures.closure (λ x r q k. search (rules, tests)))
    ∙ sum_listed (λ t. t) takes 0
