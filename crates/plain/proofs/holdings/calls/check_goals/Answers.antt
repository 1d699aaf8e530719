use Rattle.std.proofs.Common.{rules, ◌*◌, nat_lt, ◌∙◌}
use borrow.Author.Tests.{tests}
use Rattle.std.proofs.lemmas.Iterator.{YieldsList-from_slice}
use Rattle.std.proofs.lemmas.Iterator.Search.{position_from_yields_List}
use Rattle.design.specs.Lists.{total}
use Rattle.design.proofs.Firsts.{first_item, refuses_first}
use Rattle.plain.proofs.holdings.calls.check_goals.Goals as goal

pub returns : goal.returns
returns c =
    refuses_first _ _ _ 6 c.refuse_at.result c.requires.few c.refuse_at.ensures.fits
    (position_from_yields_List (λ r. nat_lt (total c.args.list.now) (c.args.n * r.size)) _ _ _ c.position.ensures.ran (YieldsList-from_slice c.args.list.now cc)
    (λ x b q k. search (rules, tests))
    ∙ first_item (λ r. nat_lt (total c.args.list.now) (c.args.n * r.size)) c.args.list.now (record { stratum = 0; cluster = 0; size = 0 }))
