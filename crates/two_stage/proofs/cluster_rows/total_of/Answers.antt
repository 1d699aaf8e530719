use Rattle.std.proofs.Common.{◌∙◌, rules}
use borrow.Author.Tests.{tests}
use Rattle.std.proofs.lemmas.Iterator.{YieldsList-from_slice, YieldsList-from_map}
use Rattle.std.proofs.lemmas.Iterator.Consumers.{YieldsList-at, sum_by_from_yields_List}
use Rattle.parts.proofs.Totals.{sum_listed}
use Rattle.two_stage.proofs.cluster_rows.total_of.Goals as goal

pub returns : goal.returns
returns c =
    let rows = c.args.rows.now in
    sum_by_from_yields_List (λ r. r.size) rows c.map.result _ c.sum.ensures.ran
    (YieldsList-from_map _ (λ r. r.size) (YieldsList-at c.map.ensures.source (YieldsList-from_slice rows cc)) c.map.ensures.closure (λ x r q k. search (rules, tests)))
    ∙ sum_listed (λ r. r.size) rows (record { stratum = 0; cluster = 0; size = 0 })
