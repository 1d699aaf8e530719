-- A view of a series that goes from part to part.
use Rattle.std.specs.Prelude.{◌≡◌, ℕ, ◌<◌, Bool, List, length, Result}
use Rattle.outcomes.specs.Trees.{Sample}
use Rattle.design.specs.Design.{Standing, ways_of}
use Rattle.design.specs.declared.design.Design as Design
use Rattle.design.specs.declared.fault.Fault.{Fault}
use Rattle.parts.specs.Copying.{Over, outcome_of}
use Rattle.parts.specs.Running.{Tables, first_row_of, is_chosen, run_from, NoneFrom, Undisturbed}
use Rattle.series.specs.Of.{plans, standing, tables_of, IsIntact, IsLoaded, IsUnderway}
use Rattle.series.specs.declared.Series.{Series}

-- the series can go on to the part j: no unit from there on is taken yet
pub record CanEnter {D : Type 0} (G : Design.Ghosts D) (s : Series D) (j : ℕ) : Type 0 where
  pub loaded : IsLoaded G s
  pub none : NoneFrom (tables_of s) (first_row_of (tables_of s) j)

-- the design has come to its outcome
abbrev pub Finished : {D : Type 0} → Design.Ghosts D → Series D → Type 0
Finished G s = ways_of (G.tree s.below) ≡ 0

-- other parts chosen
abbrev pub with_chosen : Tables → List Bool → Tables
with_chosen v flags = record {
  rows = v.rows;
  bounds = v.bounds;
  samples = v.samples;
  shares = v.shares;
  chosen = flags;
  taken = v.taken;
  stage = v.stage;
  moved = v.moved;
}

-- the parts that c holds are chosen, and nothing else is changed
pub record Chosen (c : Sample) (v w : Tables) : Type 0 where
  pub same : w ≡ with_chosen v w.chosen
  pub as_many : length w.chosen ≡ length v.chosen
  pub flags : (j : ℕ) → j < length v.chosen → is_chosen w j ≡ c j

-- ---- where a call leads
-- it is accepted; the series is then under way, or intact, and st is the run that stands
abbrev pub ComesUnderway : {D U : Type 0} → Design.Ghosts D → Series D → Result U Fault → Standing → Type 0
ComesUnderway G new result st = Undisturbed result (IsUnderway G new) (standing G new) st

abbrev pub ComesIntact : {D U : Type 0} → Design.Ghosts D → Series D → Result U Fault → Standing → Type 0
ComesIntact G new result st = Undisturbed result (IsIntact G new) (standing G new) st

-- the run on the chosen parts from part j on, where u was taken before
abbrev pub run_on : {D : Type 0} → Design.Ghosts D → Series D → ℕ → Sample → Standing
run_on G s j u = run_from (plans G s) (tables_of s) j u

-- a finished run of the design A has taken these parts, and they are chosen
abbrev pub ChoosesTaken : {A D : Type 0} → Design.Ghosts A → A → Series D → Series D → Type 0
ChoosesTaken G design old new =
    Over (G.tree design) (length (tables_of old).chosen) → Chosen (outcome_of (G.tree design)) (tables_of old) (tables_of new)
