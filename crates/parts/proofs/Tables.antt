-- Tables in which one thing is changed.
use Rattle.std.specs.Prelude.{ℕ, Bool, true, false, List}
use Rattle.parts.specs.Running.{Tables}

-- the present part is part j, and the design has just begun there
abbrev pub at_stage : Tables → ℕ → Tables
at_stage v j = record {
  rows = v.rows;
  bounds = v.bounds;
  samples = v.samples;
  shares = v.shares;
  chosen = v.chosen;
  taken = v.taken;
  stage = j;
  moved = false;
}

-- other units are taken
abbrev pub with_taken : Tables → List Bool → Tables
with_taken v taken = record {
  rows = v.rows;
  bounds = v.bounds;
  samples = v.samples;
  shares = v.shares;
  chosen = v.chosen;
  taken = taken;
  stage = v.stage;
  moved = v.moved;
}

-- the design has gone on in the present part
abbrev pub gone_on : Tables → Tables
gone_on v = record {
  rows = v.rows;
  bounds = v.bounds;
  samples = v.samples;
  shares = v.shares;
  chosen = v.chosen;
  taken = v.taken;
  stage = v.stage;
  moved = true;
}
