use Rattle.std.specs.Slice.Iter.{windows_rest, windows_size}
use Rattle.parts.specs.Parts.{bounds}
use Rattle.parts.proofs.Noting.{Noting}
use Rattle.series.specs.Kinds.{alike}
use Rattle.series.proofs.table.making.note_bounds.Given as goal

abbrev pub invariant-loop-i : goal.invariant-loop-i
invariant-loop-i l =
    Noting (alike l.kind) l.list (bounds (alike l.kind) l.list) l.i-iterator.count (windows_size l.i-iterator.iter) (windows_rest l.i-iterator.iter) l.bounds
