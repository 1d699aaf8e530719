-- What the fields of two-stage drawing stand for.
use Rattle.std.specs.Prelude.{◌≡◌, ℕ, ◌-◌, ◌*◌, Bool, ◌/◌, ◌≤◌, List, [], ◌∷◌, map, length, replicate, Option, Result, option_map, unwrap_or}
use Rattle.std.specs.NonZero.{non_zero_u32_get}
use Rattle.design.specs.Faults.{Refusal, Answers, first_of, refused_at}
use Rattle.design.specs.Lists.{total, first}
use Rattle.design.specs.Design.{Plan, Standing, in_run}
use Rattle.design.specs.declared.design.Design as Design
use Rattle.design.specs.declared.fault.Fault.{Fault}
use Rattle.design.specs.declared.row.Row.{Row}
use Rattle.parts.specs.Parts.{bounds, same_cluster, place_of}
use Rattle.design.specs.Plans.{Plans}
use Rattle.parts.specs.Series.{part_refusal}
use Rattle.parts.specs.Running.{Tables, all_parts, share_at}
use Rattle.layers.specs.TwoStage.{cluster_row, first_refusal, product_refusal, stages_run, too_large}
use Rattle.layers.specs.Stages.{denominator_at}
use Rattle.series.specs.Of.{tables_of}
use Rattle.series.specs.Tables.{newly_cut, asked}
use Rattle.two_stage.specs.declared.TwoStage.{TwoStage}
use Rattle.two_stage.specs.Stands.{standing_at, IsDrawing, drawing}

-- the run that stands
abbrev pub stands : {A B : Type 0} (G : Design.Ghosts A) (H : Design.Ghosts B) → TwoStage A B G H → Standing
stands G H s = standing_at G H s.stage s.first s.second

-- what the settings of the first and of the second design fix; callers take it as it stands in promises
abbrev pub plans_below : {A B : Type 0} {G : Design.Ghosts A} {H : Design.Ghosts B} → TwoStage A B G H → Plans × Plans
plans_below {A} {B} {G} {H} s = (G.plan s.first, H.plan s.second.below)

-- the number that is set, and 0 where none is
abbrev pub number_set : {A B : Type 0} {G : Design.Ghosts A} {H : Design.Ghosts B} → TwoStage A B G H → ℕ
number_set s = unwrap_or (option_map non_zero_u32_get s.within) 0

-- the tables of a list newly cut into clusters, each with the sample size m
abbrev pub cut_clusters : ℕ → List Row → Tables
cut_clusters m list = asked (newly_cut same_cluster list) (replicate (length (bounds same_cluster list) - 1) m)

-- a list was cut into clusters, of which q are to be drawn, and m units of each that is drawn
pub record CutInto {A B : Type 0} {G : Design.Ghosts A} {H : Design.Ghosts B} (m q : ℕ) (list : List Row) (n : ℕ) (s : TwoStage A B G H) : Type 0 where
  pub clusters : tables_of s.second ≡ cut_clusters m list
  pub drawn : q ≡ n / m
  pub few : length (all_parts (tables_of s.second)) ≤ 128
  pub small : total (tables_of s.second).rows ≤ 10240000

-- both designs, the number and the stage stay; the tables of the list may change
pub record SameLayer {A B : Type 0} {G : Design.Ghosts A} {H : Design.Ghosts B} (old new : TwoStage A B G H) : Type 0 where
  pub first : new.first ≡ old.first
  pub second : new.second.below ≡ old.second.below
  pub number : new.within ≡ old.within
  pub stage : new.stage ≡ old.stage

-- ---- what follows the cut
-- what the first design does with the rows of the clusters, of which q are drawn
abbrev pub first_does : {A B : Type 0} (G : Design.Ghosts A) {H : Design.Ghosts B} → TwoStage A B G H → ℕ → Plan
first_does G s q = G.plan s.first (map cluster_row (all_parts (tables_of s.second))) q

-- the refusals that are left: of the first design, which does a; of the second, on each cluster; of the products
abbrev pub opening_refusal : Plan → Plans → Tables → Option Refusal
opening_refusal a B v = first_of (first_refusal v.bounds a ∷ part_refusal B (all_parts v) ∷ product_refusal a B (all_parts v) (length v.rows) ∷ [])

-- the product of the unit k's denominators in both stages is too large, where the first design has the standing st
abbrev pub large_product : Standing → Tables → ℕ → Bool
large_product st v = too_large (λ k. denominator_at st (place_of 0 (all_parts v) k) * (share_at v k).1)

-- the refusal of the first unit whose product of denominators is too large
abbrev pub large_refusal : Standing → Tables → Option Refusal
large_refusal st v = refused_at (first (length v.rows) (large_product st v)) 16

-- the first design has begun as the plan a says, and the second accepts every cluster
pub record Opened {A B : Type 0} (G : Design.Ghosts A) (H : Design.Ghosts B) (a : Plan) (old new : TwoStage A B G H) : Type 0 where
  pub underway : IsDrawing G H new.first new.second
  pub run : drawing G H new.first new.second ≡ in_run (stages_run a (H.plan old.second.below) (all_parts (tables_of old.second)) (length (tables_of old.second).rows))

-- where the first design does a: refused with what is left, or opened
abbrev pub Opens : {A B U : Type 0} (G : Design.Ghosts A) (H : Design.Ghosts B) → Plan → TwoStage A B G H → TwoStage A B G H → Result U Fault → Type 0
Opens G H a old new result = Answers (opening_refusal a (H.plan old.second.below) (tables_of old.second)) (λ _. Opened G H a old new) result

-- what the settings fix stays, and so does the stage
pub record SameSettings {A B : Type 0} (G : Design.Ghosts A) (H : Design.Ghosts B) (old new : TwoStage A B G H) : Type 0 where
  pub first : G.plan new.first ≡ G.plan old.first
  pub second : H.plan new.second.below ≡ H.plan old.second.below
  pub number : new.within ≡ old.within
  pub stage : new.stage ≡ old.stage
