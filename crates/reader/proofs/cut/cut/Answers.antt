use Rattle.std.proofs.Common.{rules, ◌==◌, sym, ◌∙◌}
use borrow.Author.Tests.{tests}
use Rattle.std.proofs.lemmas.Iterator.{YieldsList-from_slice}
use Rattle.std.proofs.lemmas.Iterator.Search.{position_from_yields_List}
use Rattle.std.proofs.lemmas.List.{take_rest}
use Rattle.reader.proofs.Cuts.{cut_there, cut_nowhere}
use Rattle.reader.proofs.cut.cut.Goals as goal

pub returns-in_err-i : goal.returns-in_err-i
returns-in_err-i c =
    let e = position_from_yields_List (λ b. b == c.args.at) _ _ c.position.result c.position.ensures.ran (YieldsList-from_slice c.args.text.now cc) (λ x b q k. search (rules, tests)) in
    rw c.from_residual.ensures (cut_nowhere c.args.at c.args.text.now (sym e ∙ c.in_err-i.was))

pub returns : goal.returns
returns c =
    let e = position_from_yields_List (λ b. b == c.args.at) _ _ c.position.result c.position.ensures.ran (YieldsList-from_slice c.args.text.now cc) (λ x b q k. search (rules, tests)) in
    rw take_rest (cut_there c.args.at c.in_ok-i.i c.args.text.now (sym e ∙ c.in_ok-i.was))
