use Rattle.std.proofs.Common.{◌-◌, length}
use Rattle.frame_file.specs.Pieces.{fields_of}
use Rattle.reader.proofs.Takes.{TakesRead}
use Rattle.reader.proofs.line.read_takes.Given as goal

abbrev pub invariant-loop-fields : goal.invariant-loop-fields
invariant-loop-fields l = TakesRead 2 (fields_of l.text) l.takes l.fields

abbrev pub decreases-loop-fields : goal.decreases-loop-fields
decreases-loop-fields l = 64 - length l.takes
