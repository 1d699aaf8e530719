use Rattle.std.proofs.Common.{◌∙◌}
use Rattle.series.proofs.Tabled.{counted}
use Rattle.series.proofs.table.PartTable.count.Goals as goal

pub returns : goal.returns
returns c = c.len.ensures.len ∙ counted c.args.self.now
