use Rattle.std.proofs.Common.{ltb, subst, sym, rules}
use Rattle.std.specs.Prelude.{unwrap_or, length}
use borrow.Author.Tests.{tests}
use Rattle.std.proofs.lemmas.Iterator.{YieldsList-from_slice}
use Rattle.std.proofs.lemmas.Iterator.Search.{position_from_yields_List}
use Rattle.parts.specs.Seats.{Seated}
use Rattle.series.proofs.Finding.{found_in_order, later}
use Rattle.series.proofs.table.reading.find_in_order.Goals as goal

pub returns : goal.returns
returns c e rise l =
    let k = c.args.k in
    let bs = c.args.bounds.now in
    rw c.unwrap_or.ensures
    (subst (λ o. Seated bs k (unwrap_or o (length (later bs))))
    (sym (position_from_yields_List (λ b. ltb k b) _ _ _ c.position.ensures.ran (YieldsList-from_slice _ cc) (λ x b q h. search (rules, tests))))
    (found_in_order bs e k rise l c.in-len2-up.len_at_least))
