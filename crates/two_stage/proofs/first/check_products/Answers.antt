use Rattle.std.proofs.Common.{◌≡◌, ◌<◌, true, false, length, rules}
use Rattle.std.proofs.lemmas.Iterator.{first_from_Range}
use Rattle.design.proofs.Firsts.{refuses_first}
use Rattle.series.specs.Tables.{tables}
use Rattle.two_stage.specs.Of.{large_product}
use Rattle.two_stage.proofs.Products.{large_found}
use Rattle.two_stage.proofs.first.check_products.Goals as goal

pub returns : goal.returns
returns g c u =
    let v = tables c.args.table.now in
    let p = large_product (g.A.Design.tree c.args.first.now) v in
    let n = length v.rows in
    let found = first_from_Range _ _ _ _ (λ k. k < n → p k ≡ true) (λ k. k < n → p k ≡ false) c.find-large.ensures.ran
    (λ x q h l. let few = c.args.table.now.rows_few in search rules) (λ x q h. (search rules, λ l. let few = c.args.table.now.rows_few in search rules)) in
    refuses_first n p _ 16 c.refuse_at.result c.args.table.now.rows_few c.refuse_at.ensures.fits (large_found n c.units.result p c.find-large.result c.units.ensures found)
