use Rattle.design.proofs.Checks.{Summed}
use Rattle.design.proofs.check.check_total.Given as goal

abbrev pub invariant-loop-i : goal.invariant-loop-i
invariant-loop-i l = Summed l.list l.i l.sum
