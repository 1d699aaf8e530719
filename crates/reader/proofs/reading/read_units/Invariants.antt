use Rattle.std.proofs.Common.{length}
use Rattle.reader.proofs.LinesRead.{UnitsRead}
use Rattle.reader.proofs.reading.read_units.Given as goal

abbrev pub invariant-loop-text : goal.invariant-loop-text
invariant-loop-text l = UnitsRead l.from.rest.now l.units l.lines

abbrev pub decreases-loop-text : goal.decreases-loop-text
decreases-loop-text l = length l.lines.rest.now
