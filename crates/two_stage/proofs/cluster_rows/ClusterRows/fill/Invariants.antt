use Rattle.std.proofs.Common.{◌≡◌, take, map}
use Rattle.layers.specs.TwoStage.{cluster_row}
use Rattle.parts.specs.Running.{all_parts}
use Rattle.series.specs.Tables.{tables}
use Rattle.two_stage.proofs.cluster_rows.ClusterRows.fill.Given as goal

abbrev pub invariant-loop-j : goal.invariant-loop-j
invariant-loop-j l = l.self.rows ≡ map cluster_row (take l.j (all_parts (tables l.table)))
