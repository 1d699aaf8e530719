-- A series under way: a design runs on the chosen parts of a list, one after another. What its tables hold, and what then stands.
use Rattle.std.specs.Prelude.{◌≡◌, ℕ, ◌+◌, ◌-◌, ◌<◌, ◌≤◌, Bool, true, false, List, length, take, drop, Ok, Err, Result, nat_lt, slice_index, slice_index_or}
use Rattle.outcomes.specs.Trees.{Tree, finished, Sample, Lawful, bind}
use Rattle.design.specs.Design.{Plan, Run, Standing, no_run, in_run, Began, ways_of}
use Rattle.design.specs.declared.fault.Fault.{Fault}
use Rattle.design.specs.Fractions.{Fraction, fraction}
use Rattle.design.specs.declared.row.Row.{Row}
use Rattle.parts.specs.Parts.{Part, cut}
use Rattle.design.specs.Plans.{Plans, denominator_of}
use Rattle.parts.specs.Series.{plan_for, joined, series, chosen, denominators, prescribed}
use Rattle.parts.specs.Bounds.{AllAccepted, Rising}

-- the rows of the list, the first rows of its parts with the row past the list, each part's sample size, each unit's prescribed share,
-- which parts are chosen, which units of the parts behind are taken, the number of the present part, and whether the design has gone on since
-- it began there
pub record Tables : Type 0 where
  pub rows : List Row
  pub bounds : List ℕ
  pub samples : List ℕ
  pub shares : List Fraction
  pub chosen : List Bool
  pub taken : List Bool
  pub stage : ℕ
  pub moved : Bool

-- the sample size of part j
abbrev pub sample_of : Tables → ℕ → ℕ
sample_of v j = slice_index v.samples j

-- the parts of the list
abbrev pub all_parts : Tables → List Part
all_parts v = cut (sample_of v) v.rows v.bounds

-- the first row of part j, and part j
abbrev pub first_row_of : Tables → ℕ → ℕ
first_row_of v j = slice_index v.bounds j

abbrev pub part_at : Tables → ℕ → Part
part_at v j = record { at = first_row_of v j; rows = take (first_row_of v (j + 1) - first_row_of v j) (drop (first_row_of v j) v.rows); sample = sample_of v j }

-- the chosen parts, by their numbers
abbrev pub is_chosen : Tables → Sample
is_chosen v j = slice_index_or v.chosen j false

-- what stands where no share is noted; the prescribed share of the unit k
abbrev pub no_share : Fraction
no_share = fraction 0 0

abbrev pub share_at : Tables → ℕ → Fraction
share_at v k = slice_index_or v.shares k no_share

-- the taken units of the parts behind
abbrev pub so_far : Tables → Sample
so_far v k = slice_index_or v.taken k false

-- the chosen parts from part j on
abbrev pub ahead : Tables → ℕ → List Part
ahead v j = chosen (is_chosen v) j (drop j (all_parts v))

-- ---- what stands
-- the present tree t of the part p, then the parts ps
abbrev pub resumed : Plans → Part → List Part → Sample → Tree Sample → Tree Sample
resumed B p ps u t = bind t (λ v. series B ps (joined p u v))

-- the run over all rows whose present tree is t
abbrev pub run_over : Plans → Tables → Tree Sample → Run
run_over B v t = record { tree = t; units = length v.rows; denominator = denominators B (all_parts v) }

-- there is a present part
abbrev pub has_present : Tables → Bool
has_present v = nat_lt (v.stage + 1) (length v.bounds)

-- the run that stands, where the design below has the standing st: it goes on in the present part, if there is one (the flag says so); else
-- all parts are behind, and the run has come to its outcome
abbrev pub standing_by : Bool → Plans → Tables → Standing → Standing
standing_by true B v no_run = no_run
standing_by true B v (in_run r) = in_run (run_over B v (resumed B (part_at v v.stage) (ahead v (v.stage + 1)) (so_far v) r.tree))
standing_by false B v st = in_run (run_over B v (finished (so_far v)))

abbrev pub standing_of : Plans → Tables → Standing → Standing
standing_of B v st = standing_by (has_present v) B v st

-- the design is begun on the chosen parts from part j on, where u was taken before
abbrev pub run_from : Plans → Tables → ℕ → Sample → Standing
run_from B v j u = in_run (run_over B v (series B (ahead v j) u))

-- ---- from part to part
-- r is the first chosen part from part j on, or the number of parts
pub record NextChosen (flags : List Bool) (j r : ℕ) : Type 0 where
  pub low : j ≤ r
  pub high : r ≤ length flags
  pub passed : (i : ℕ) → j ≤ i → i < r → slice_index_or flags i false ≡ false
  pub found : r < length flags → slice_index_or flags r false ≡ true

-- the call is accepted, S then holds, and the run that stands is as it was
abbrev pub Undisturbed : {U : Type 0} → Result U Fault → Type 0 → Standing → Standing → Type 0
Undisturbed (Ok x) S st old = S × (st ≡ old)
Undisturbed (Err e) S st old = ⊥

-- ---- what belongs together
-- the design accepts every part, and the prescribed shares are there
pub record Loaded (B : Plans) (v : Tables) : Type 0 where
  pub rising : Rising v.bounds (length v.rows)
  pub accepted : AllAccepted B (all_parts v)
  pub shares_are : (k : ℕ) → k < length v.rows → share_at v k ≡ prescribed B (all_parts v) k

-- the run that stands is the one that the plan begins
abbrev pub Begins : Plan → Standing → Type 0
Begins a st = Began {U = Unit {0}} a (Ok tt) st

-- the design has just begun on part j, if there is one
abbrev pub AtPart : Plans → Tables → ℕ → Standing → Type 0
AtPart B v j st = j < length v.chosen → Begins (plan_for B (part_at v j)) st

-- the design accepts every part, the prescribed shares are there, and it has just begun on the first part
pub record Ready (B : Plans) (v : Tables) (st : Standing) : Type 0 where
  pub loaded : Loaded B v
  pub at_first : AtPart B v 0 st

-- no unit from the row a on is taken yet
abbrev pub NoneFrom : Tables → ℕ → Type 0
NoneFrom v a = (k : ℕ) → a ≤ k → so_far v k ≡ false

-- the run r is one of the design in the present part
pub record Within (B : Plans) (v : Tables) (r : Run) : Type 0 where
  pub units_are : r.units ≡ first_row_of v (v.stage + 1) - first_row_of v v.stage
  pub lawful : Lawful (first_row_of v (v.stage + 1) - first_row_of v v.stage) r.tree
  pub denominator_is : (k : ℕ) → r.denominator k ≡ denominator_of (plan_for B (part_at v v.stage)) k
  pub none_ahead : NoneFrom v (first_row_of v v.stage)

-- there is a present part, and the design runs in it; or there is none
abbrev pub Present : Bool → Plans → Tables → Standing → Type 0
Present true B v no_run = ⊥
Present true B v (in_run r) = Within B v r
Present false B v st = Unit {0}

-- the design has just begun on the present part, if there is one, which is chosen
abbrev pub Unmoved : Plans → Tables → Standing → Type 0
Unmoved B v st = v.stage < length v.chosen → Begins (plan_for B (part_at v v.stage)) st × (is_chosen v v.stage ≡ true)

-- a run over the parts is under way; the present one may have come to its outcome
pub record Underway (B : Plans) (v : Tables) (st : Standing) : Type 0 where
  pub loaded : Loaded B v
  pub flags : length v.taken ≡ length v.rows
  pub present : Present (has_present v) B v st
  pub unmoved : v.moved ≡ false → Unmoved B v st

-- the present part has ways: a finished one is left at once
abbrev pub Settled : Bool → Standing → Type 0
Settled true st = 0 < ways_of st
Settled false st = Unit {0}

-- under way, and settled: the parts of the state belong together
pub record Intact (B : Plans) (v : Tables) (st : Standing) : Type 0 where
  pub underway : Underway B v st
  pub settled : Settled (has_present v) st
