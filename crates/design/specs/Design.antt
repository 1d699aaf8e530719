-- What a design's calls answer and leave, over the run that stands.
use Rattle.std.specs.Prelude.{◌≡◌, ℕ, ◌^◌, ◌<◌, ◌≤◌, Bool, T, ◌⊎◌, List, length, Some, None, Ok, Err, Option, Result}
use Rattle.outcomes.specs.Trees.{Tree, Sample, Share, Always, Lawful, ways, subtree}
use Rattle.design.specs.Faults.{Refusal, numbered, refusal}
use Rattle.design.specs.declared.fault.Fault.{Fault}
use Rattle.design.specs.Fractions.{Fraction}
use Rattle.design.specs.declared.row.Row.{Row}

-- a run: the present tree, the number of units, and each unit's denominator
pub record Run : Type 0 where
  pub tree : Tree Sample
  pub units : ℕ
  pub denominator : ℕ → ℕ

-- the run that stands, if one does
pub data Standing : Type 0 where
  no_run : Standing
  in_run : Run → Standing

-- what begin does with a list and a sample size: it refuses, or accepts with these prescribed numerators and leaves this run
pub data Plan : Type 0 where
  refuses : Refusal → Plan
  accepts : (ℕ → ℕ) → Run → Plan

-- the numerator over the unit's denominator is its inclusion share: the part of all outcomes, by weight, that hold the unit
abbrev pub Fair : Run → ℕ → ℕ → Type 0
Fair run k num = Share k num (run.denominator k) run.tree

-- the plan that refuses with the first refusal, if there is one, and else accepts
abbrev pub plan_of : Option Refusal → (ℕ → ℕ) → Run → Plan
plan_of (Some f) num run = refuses f
plan_of None num run = accepts num run

-- ---- begin
-- refused, no run stands; accepted, the run is the one of the plan
abbrev pub Began : {U : Type 0} → Plan → Result U Fault → Standing → Type 0
Began (refuses f) (Ok u) after = ⊥
Began (refuses f) (Err e) after = (numbered e ≡ f) × (after ≡ no_run)
Began (accepts num run) (Ok u) after = after ≡ in_run run
Began (accepts num run) (Err e) after = ⊥

-- ---- ways and step
-- the ways of the present tree, and 0 where it is finished or no run stands
abbrev pub ways_of : Standing → ℕ
ways_of no_run = 0
ways_of (in_run run) = ways run.tree

-- the run at the subtree d: units and denominators stay
abbrev pub below : Standing → ℕ → Standing
below no_run d = no_run
below (in_run run) d = in_run (record { tree = subtree run.tree d; units = run.units; denominator = run.denominator })

-- a throw with no way, and one that is not below the ways, are refused, and nothing changes
abbrev pub Stepped : {U : Type 0} → Standing → ℕ → Result U Fault → Standing → Type 0
Stepped before d (Ok u) after = (d < ways_of before) × (after ≡ below before d)
Stepped before d (Err e) after =
    (after ≡ before)
    × (((ways_of before ≡ 0) × (numbered e ≡ refusal 17)) ⊎ ((0 < ways_of before) × (ways_of before ≤ d) × (numbered e ≡ refusal 18)))

-- ---- share and taken
-- an answer about a unit: of a unit of the run, one with Q; where no run stands, or it has no such unit, a refusal
abbrev pub OfUnit : {A : Type 0} → Standing → ℕ → (Run → A → Type 0) → Result A Fault → Type 0
OfUnit no_run k Q (Ok a) = ⊥
OfUnit no_run k Q (Err e) = numbered e ≡ refusal 19
OfUnit (in_run run) k Q (Ok a) = (k < run.units) × Q run a
OfUnit (in_run run) k Q (Err e) = (run.units ≤ k) × (numbered e ≡ refusal 19)

-- the run's denominator, under the numerator that makes it the inclusion share
abbrev pub Shared : Standing → ℕ → Result Fraction Fault → Type 0
Shared s k r = OfUnit s k (λ run share. (share.1 ≡ run.denominator k) × Fair run k share.0) r

-- yes exactly where the unit is in every outcome
abbrev pub Taken : Standing → ℕ → Result Bool Fault → Type 0
Taken s k r = OfUnit s k (λ run b. (T b → Always k run.tree) × (Always k run.tree → T b)) r

-- ---- what holds of every plan, and of every run that stands
-- an accepted list: its length, its units, and the prescribed shares, which are exact
pub record Sound (list : List Row) (num : ℕ → ℕ) (run : Run) : Type 0 where
  pub some_rows : 0 < length list
  pub few_rows : length list ≤ 1024
  pub units_listed : run.units ≡ length list
  pub lawful : Lawful (length list) run.tree
  pub prescribed : (k : ℕ) → k < length list → (1 ≤ num k) × (num k ≤ run.denominator k) × (run.denominator k ≤ 10 ^ 15)
  pub fair : (k : ℕ) → k < length list → Fair run k (num k)

-- a refusal names row 0 or a row of the list
abbrev pub SoundPlan : List Row → Plan → Type 0
SoundPlan list (refuses f) = (f.row ≡ 0) ⊎ (f.row < length list)
SoundPlan list (accepts num run) = Sound list num run

-- a run that stands: its tree, its denominators, and an exact numerator of each unit in the present tree
pub record SoundRun (run : Run) : Type 0 where
  pub lawful : Lawful run.units run.tree
  pub denominators : (k : ℕ) → k < run.units → (1 ≤ run.denominator k) × (run.denominator k ≤ 10 ^ 15)
  pub exact : (k : ℕ) → k < run.units → (num : ℕ) × Fair run k num

abbrev pub SoundStanding : Standing → Type 0
SoundStanding no_run = Unit {0}
SoundStanding (in_run run) = SoundRun run
