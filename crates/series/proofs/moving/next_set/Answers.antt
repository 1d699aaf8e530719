use Rattle.std.proofs.Common.{◌≡◌, ◌-◌, Bool, List, length, take, drop, ap, ◌∙◌, rules, arith}
use borrow.Author.Tests.{tests}
use Rattle.std.specs.List.{position}
use Rattle.std.proofs.lemmas.List.{take_all, length-drop}
use Rattle.std.proofs.lemmas.Iterator.{YieldsList-from_slice}
use Rattle.std.proofs.lemmas.Iterator.Search.{position_from_yields_List}
use Rattle.series.proofs.Moves.{next_found}
use Rattle.series.proofs.moving.next_set.Goals as goal

pub returns : goal.returns
returns c =
    let from = c.args.from in
    let flags = c.args.flags.now in
    let rest : List Bool = take (length flags - from) (drop from flags) in
    let same : rest ≡ drop from flags = take_all (length flags - from) (drop from flags) (omega (arith, length-drop from flags)) in
    let at = position_from_yields_List (λ b. b) _ _ _ c.position.ensures.ran (YieldsList-from_slice rest cc) (λ x b q k. search (rules, tests)) in
    let at' : c.position.result ≡ position (λ b. b) (drop from flags) = at ∙ ap (position (λ b. b)) same in
    next_found flags from c.map_or.result c.requires c.position.result at' (search (rules, tests))
