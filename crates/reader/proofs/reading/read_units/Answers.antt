use Rattle.std.proofs.Common.{arith}
use Rattle.std.proofs.lemmas.Option.{MatchOption-at_some}
use Rattle.reader.proofs.Exits.{exit}
use Rattle.reader.proofs.LinesRead.{one_more, unit_surplus, unit_wrong}
use Rattle.reader.proofs.reading.read_units.Goals as goal

pub returns-then-len-eq-MOST_ROWS-clause-refused : goal.returns-then-len-eq-MOST_ROWS-clause-refused
returns-then-len-eq-MOST_ROWS-clause-refused c =
    unit_surplus c.loop-text.invariant (MatchOption-at_some _ _ c.in-Some.text c.in-Some.is c.in_ok-text.ensures.taken) (omega arith) c.fault.ensures

pub returns-in_err-read_unit-clause-refused : goal.returns-in_err-read_unit-clause-refused
returns-in_err-read_unit-clause-refused c =
    exit _ _ _ _ c.from_residual-in_err-read_unit.ensures.1
    (unit_wrong c.loop-text.invariant (MatchOption-at_some _ _ c.in-Some.text c.in-Some.is c.in_ok-text.ensures.taken) (omega arith) (rw (← c.number.ensures) c.in_err-read_unit.ensures.refused))

pub loop-text-preserved : goal.loop-text-preserved
loop-text-preserved c =
    one_more c.loop-text.invariant (MatchOption-at_some _ _ c.in-Some.text c.in-Some.is c.in_ok-text.ensures.taken) (omega arith) c.in_ok-read_unit.ensures.read (c.push.ensures.appended (omega arith))
