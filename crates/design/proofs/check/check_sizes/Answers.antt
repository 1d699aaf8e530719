use Rattle.std.proofs.Common.{rules, ◌==◌, ◌∙◌}
use borrow.Author.Tests.{tests}
use Rattle.std.proofs.lemmas.Iterator.{YieldsList-from_slice}
use Rattle.std.proofs.lemmas.Iterator.Search.{position_from_yields_List}
use Rattle.design.proofs.Firsts.{first_item, refuses_first}
use Rattle.design.proofs.check.check_sizes.Goals as goal

pub returns : goal.returns
returns c =
    refuses_first _ _ _ 4 c.refuse_at.result c.requires c.refuse_at.ensures.fits
    (position_from_yields_List (λ r. r.size == 0) _ _ _ c.position.ensures.ran (YieldsList-from_slice c.args.list.now cc) (λ x b q k. search (rules, tests))
    ∙ first_item (λ r. r.size == 0) c.args.list.now (record { stratum = 0; cluster = 0; size = 0 }))
