-- Two-stage drawing under way: what stands while the first design runs, and what stands once the second does.
use Rattle.std.specs.Prelude.{◌≡◌, ℕ, ◌*◌, ◌^◌, ◌<◌, ◌≤◌, length}
use Rattle.outcomes.specs.Trees.{Tree, Sample, Lawful}
use Rattle.design.specs.Design.{Run, Standing, no_run, in_run, ways_of}
use Rattle.parts.specs.Parts.{place_of}
use Rattle.design.specs.Plans.{Plans}
use Rattle.parts.specs.Series.{denominators}
use Rattle.parts.specs.Running.{Tables, all_parts, Loaded, AtPart, Intact}
use Rattle.layers.specs.TwoStage.{stages}

-- the units of the run that stands, and the denominator of one
abbrev pub units_of : Standing → ℕ
units_of no_run = 0
units_of (in_run r) = r.units

abbrev pub denominator_at : Standing → ℕ → ℕ
denominator_at no_run j = 0
denominator_at (in_run r) j = r.denominator j

-- a run of both stages, where r is the run of the first design, and t the present tree
abbrev pub stages_over : Plans → Tables → Run → Tree Sample → Run
stages_over B v r t = record {
  tree = t;
  units = length v.rows;
  denominator = λ k. r.denominator (place_of 0 (all_parts v) k) * denominators B (all_parts v) k;
}

-- while the first design runs, and has the standing st: its tree, then the second design on each cluster that it takes
abbrev pub in_first : Plans → Tables → Standing → Standing
in_first B v no_run = no_run
in_first B v (in_run r) = in_run (stages_over B v r (stages B (all_parts v) r.tree))

-- once the first design has finished, and the series of the second on the taken clusters has the standing su
abbrev pub in_second : Plans → Tables → Standing → Standing → Standing
in_second B v no_run su = no_run
in_second B v (in_run r) no_run = no_run
in_second B v (in_run r) (in_run s) = in_run (stages_over B v r s.tree)

-- the first design's run r is one on the clusters, and no product of denominators is too large
pub record Fitting (B : Plans) (v : Tables) (r : Run) : Type 0 where
  pub units_are : r.units ≡ length (all_parts v)
  pub lawful : Lawful (length (all_parts v)) r.tree
  pub small : (k : ℕ) → k < length v.rows → r.denominator (place_of 0 (all_parts v) k) * denominators B (all_parts v) k ≤ 10 ^ 15

abbrev pub Fits : Plans → Tables → Standing → Type 0
Fits B v no_run = ⊥
Fits B v (in_run r) = Fitting B v r

-- the first design runs, and may have finished
pub record FirstUnderway (B : Plans) (v : Tables) (st : Standing) : Type 0 where
  pub loaded : Loaded B v
  pub fits : Fits B v st

-- the first design runs, and may have finished, while the second has just begun on the first cluster
pub record Drawing (B : Plans) (v : Tables) (st su : Standing) : Type 0 where
  pub underway : FirstUnderway B v st
  pub at_first : AtPart B v 0 su

-- the first design runs, and has ways
pub record InFirst (B : Plans) (v : Tables) (st su : Standing) : Type 0 where
  pub drawing : Drawing B v st su
  pub has_ways : 0 < ways_of st

-- the first design has finished, and the second runs on the taken clusters
pub record InSecond (B : Plans) (v : Tables) (st su : Standing) : Type 0 where
  pub underway : FirstUnderway B v st
  pub series : Intact B v su
