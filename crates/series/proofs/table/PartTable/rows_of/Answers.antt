use Rattle.std.proofs.Common.{arith}
use Rattle.series.proofs.Tabled.{bounded}
use Rattle.series.proofs.table.PartTable.rows_of.Goals as goal

pub returns-clause-forward : goal.returns-clause-forward
returns-clause-forward c =
    let b = bounded c.args.self.now c.args.j c.requires in omega (arith, c.first_row.ensures, c.first_row-2.ensures, b.0)

pub returns-clause-within : goal.returns-clause-within
returns-clause-within c =
    let b = bounded c.args.self.now c.args.j c.requires in omega (arith, c.first_row-2.ensures, b.1)
