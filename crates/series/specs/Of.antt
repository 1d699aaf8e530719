-- What a series stands for, over the meaning G of the design below.
use Rattle.std.specs.Prelude.{◌≡◌, []}
use Rattle.design.specs.Design.{Standing}
use Rattle.design.specs.declared.design.Design as Design
use Rattle.parts.specs.Running.{Tables, standing_of, Loaded, Ready, Underway, Intact}
use Rattle.design.specs.Plans.{Plans}
use Rattle.series.specs.Tables.{tables}
use Rattle.series.specs.declared.Series.{Series}

-- the plans of the design below, and the tables
abbrev pub plans : {D : Type 0} → Design.Ghosts D → Series D → Plans
plans G s = G.plan s.below

abbrev pub tables_of : {D : Type 0} → Series D → Tables
tables_of s = tables s.table

-- the design, with no list
pub record IsNew {D : Type 0} (below : D) (s : Series D) : Type 0 where
  pub over : s.below ≡ below
  pub no_list : (tables_of s).rows ≡ []

-- the run that stands
abbrev pub standing : {D : Type 0} → Design.Ghosts D → Series D → Standing
standing G s = standing_of (plans G s) (tables_of s) (G.tree s.below)

-- the design accepts every part, and the prescribed shares are there
abbrev pub IsLoaded : {D : Type 0} → Design.Ghosts D → Series D → Type 0
IsLoaded G s = Loaded (plans G s) (tables_of s)

-- the same, and the design has just begun on the first part, as where every part was tried
abbrev pub IsReady : {D : Type 0} → Design.Ghosts D → Series D → Type 0
IsReady G s = Ready (plans G s) (tables_of s) (G.tree s.below)

-- a run has begun, and its present part may be finished
abbrev pub IsUnderway : {D : Type 0} → Design.Ghosts D → Series D → Type 0
IsUnderway G s = Underway (plans G s) (tables_of s) (G.tree s.below)

-- a run has begun, and its present part, if there is one, has ways
abbrev pub IsIntact : {D : Type 0} → Design.Ghosts D → Series D → Type 0
IsIntact G s = Intact (plans G s) (tables_of s) (G.tree s.below)

-- the list, its parts and their prescribed shares stay
pub record SameList (v w : Tables) : Type 0 where
  pub rows : w.rows ≡ v.rows
  pub bounds : w.bounds ≡ v.bounds
  pub samples : w.samples ≡ v.samples
  pub shares : w.shares ≡ v.shares
  pub chosen : w.chosen ≡ v.chosen
