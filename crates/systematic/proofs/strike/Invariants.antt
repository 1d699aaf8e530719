use Rattle.std.proofs.Common.{◌≡◌}
use Rattle.methods.proofs.Striking.{Striking}
use Rattle.plain.specs.Of.{runs, whole, held}
use Rattle.systematic.proofs.strike.Given as goal

abbrev pub invariant-loop-i : goal.invariant-loop-i
invariant-loop-i l =
    Striking (whole l.initial.units) (held l.initial.units) l.r l.i l.sum l.point (held l.units)
    × (whole l.units ≡ whole l.initial.units)
    × (runs l.units ≡ runs l.initial.units)
