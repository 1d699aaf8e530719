use Rattle.std.proofs.Common.{◌≡◌}
use Rattle.parts.specs.Trying.{with_shares}
use Rattle.parts.proofs.Trying.{TriedFrom}
use Rattle.series.specs.Of.{plans, tables_of}
use Rattle.series.proofs.Series.try_parts.Given as goal

abbrev pub invariant-loop-j : goal.invariant-loop-j
invariant-loop-j g l =
    (plans g.D.Design l.self ≡ plans g.D.Design l.initial.self)
    × (tables_of l.self ≡ with_shares (tables_of l.initial.self) (tables_of l.self).shares)
    × TriedFrom (plans g.D.Design l.initial.self) (tables_of l.initial.self) (tables_of l.self).shares l.j (g.D.Design.tree l.self.below) l.answer
