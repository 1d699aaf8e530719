-- What the fields of a table stand for.
use Rattle.std.specs.Prelude.{ℕ, ◌-◌, Bool, true, false, List, length, replicate}
use Rattle.design.specs.declared.row.Row.{Row}
use Rattle.parts.specs.Parts.{bounds}
use Rattle.parts.specs.Running.{Tables, no_share}
use Rattle.series.specs.declared.table.PartTable.{PartTable}

abbrev pub tables : PartTable → Tables
tables t = record {
  rows = t.rows;
  bounds = t.bounds;
  samples = t.samples;
  shares = t.shares;
  chosen = t.chosen;
  taken = t.taken;
  stage = t.stage;
  moved = t.moved;
}

-- a list newly cut: all parts are chosen, and nothing else is noted
abbrev pub newly_cut : (Row → Row → Bool) → List Row → Tables
newly_cut alike list = record {
  rows = list;
  bounds = bounds alike list;
  samples = replicate (length (bounds alike list) - 1) 0;
  shares = replicate (length list) no_share;
  chosen = replicate (length (bounds alike list) - 1) true;
  taken = replicate (length list) false;
  stage = 0;
  moved = false;
}

-- the tables with these sample sizes
abbrev pub asked : Tables → List ℕ → Tables
asked v samples = record {
  rows = v.rows;
  bounds = v.bounds;
  samples = samples;
  shares = v.shares;
  chosen = v.chosen;
  taken = v.taken;
  stage = v.stage;
  moved = v.moved;
}
