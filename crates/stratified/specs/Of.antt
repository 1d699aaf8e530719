-- What the fields of a stratification stand for.
use Rattle.std.specs.Prelude.{◌≡◌, ℕ, List}
use Rattle.design.specs.declared.design.Design as Design
use Rattle.design.specs.declared.row.Row.{Row}
use Rattle.design.specs.Plans.{Plans}
use Rattle.parts.specs.Parts.{same_stratum}
use Rattle.parts.specs.Running.{Tables}
use Rattle.series.specs.Tables.{newly_cut, asked}
use Rattle.stratified.specs.declared.Stratified.{Stratified}

-- the table of takes
abbrev pub takes_of : {D : Type 0} {G : Design.Ghosts D} → Stratified D G → List ℕ
takes_of s = s.takes.items

-- what the settings of the design below fix; callers take it as it stands in promises
abbrev pub plans_below : {D : Type 0} {G : Design.Ghosts D} → Stratified D G → Plans
plans_below {D} {G} s = G.plan s.strata.below

-- the tables of a list newly cut into strata, each with its take
abbrev pub cut_strata : List ℕ → List Row → Tables
cut_strata takes list = asked (newly_cut same_stratum list) takes

-- the design below, the takes and the flag stay; the tables of the list may change
pub record SameLayer {D : Type 0} {G : Design.Ghosts D} (old new : Stratified D G) : Type 0 where
  pub below : new.strata.below ≡ old.strata.below
  pub takes : new.takes ≡ old.takes
  pub running : new.running ≡ old.running
