use Rattle.std.proofs.Common.{pos, arith}
use Rattle.std.proofs.lemmas.Grind.{common_steps}
use Rattle.std.proofs.lemmas.Int.{ints}
use Rattle.totals.proofs.Cells.{raised_at_cell}
use Rattle.totals.proofs.table.TableTotal.add.Goals as goal

pub returns-clause-raised : goal.returns-clause-raised
returns-clause-raised c =
    let bounded = c.args.self.now.bounded c.args.cell.now.at (pos 0) (grind (arith, common_steps)) in
    search (arith, ints, raised_at_cell)
