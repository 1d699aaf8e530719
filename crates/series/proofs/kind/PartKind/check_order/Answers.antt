use Rattle.std.proofs.Common.{◌≡◌, ℕ, ◌-◌, Bool, true, false, rules}
use Rattle.std.proofs.lemmas.Iterator.{first_from_Range}
use Rattle.design.proofs.Firsts.{refuses_first}
use Rattle.design.specs.Lists.{row_at}
use Rattle.parts.proofs.Noting.{fall_found}
use Rattle.series.specs.Kinds.{lower}
use Rattle.series.proofs.kind.PartKind.check_order.Goals as goal

pub returns : goal.returns
returns c =
    let list = c.args.list.now in
    let falls : ℕ → Bool = λ i. lower c.args.self (row_at list (i - 1)) (row_at list i) in
    refuses_first _ _ _ 11 c.refuse_at.result c.requires c.refuse_at.ensures.fits
    (fall_found (lower c.args.self) list c.find-fall.result
    (first_from_Range _ _ _ _ (λ i. falls i ≡ true) (λ i. falls i ≡ false) c.find-fall.ensures.ran (λ x q t. search rules) (λ x q t. search rules)))
