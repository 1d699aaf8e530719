use Rattle.std.proofs.Common.{◌≡◌, ◌-◌, length}
use Rattle.series.specs.Of.{IsUnderway, SameList, plans, standing, tables_of}
use Rattle.series.proofs.Series.settle.Given as goal

abbrev pub invariant-loop-self : goal.invariant-loop-self
invariant-loop-self g l =
    SameList (tables_of l.initial.self) (tables_of l.self)
    × (plans g.D.Design l.self ≡ plans g.D.Design l.initial.self)
    × (IsUnderway g.D.Design l.initial.self → IsUnderway g.D.Design l.self × (standing g.D.Design l.self ≡ standing g.D.Design l.initial.self))

abbrev pub decreases-loop-self : goal.decreases-loop-self
decreases-loop-self g l = length l.self.table.bounds - l.self.table.stage
