use Rattle.std.proofs.Common.{sym}
use Rattle.two_stage.proofs.Products.{test_is}
use Rattle.two_stage.proofs.first.has_large_product.Goals as goal

pub returns : goal.returns
returns g c u =
    sym (test_is c.args.table.now (g.A.Design.tree c.args.first.now) c.args.k c.part_of-cluster.result c.denominator_at-of_cluster.result c.prescribed-within.result c.is_too_large.result u
    (c.part_of-cluster.ensures c.requires) c.denominator_at-of_cluster.ensures c.prescribed-within.ensures c.is_too_large.ensures)
