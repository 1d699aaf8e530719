use Rattle.std.proofs.Common.{refl, ◌∙◌}
use Rattle.weights.proofs.Weighed.{weight_is}
use Rattle.weights.proofs.weighing.weight_of.Goals as goal

pub returns : goal.returns
returns c some =
    weight_is c.args.scale c.args.share.0 c.args.share.1 c.from.result c.from-2.result c.args.share.0 c.from-3.result some
    c.from.ensures c.from-2.ensures refl (c.from-3.ensures ∙ c.max.ensures)
