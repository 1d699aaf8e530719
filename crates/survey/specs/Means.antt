-- What the fields of a survey mean: the state of the plain survey.
use Rattle.std.specs.Prelude.{◌≡◌, ℕ, ◌≤◌, List, None, Result}
use Rattle.design.specs.Faults.{Refusal, told}
use Rattle.design.specs.Plans.{Plans}
use Rattle.design.specs.declared.design.Design as Design
use Rattle.design.specs.declared.fault.Fault.{Fault}
use Rattle.throws.specs.declared.source.Source as Source
use Rattle.totals.specs.declared.total.Total as Total
use Rattle.plain_survey.specs.States.{State, ways_now}
use Rattle.plain_survey.specs.Reports.{Kind, Tally}
use Rattle.plain_survey.specs.Requests.{Request, request_tallies}
use Rattle.plain_survey.specs.Laws.{ExactShares}
use Rattle.plain_survey.specs.Estimates.{Estimates}
use Rattle.survey.specs.Runs.{RunMeans}
use Rattle.survey.specs.declared.survey.Survey.{Survey}

-- what the design's settings fix for each list and sample size
abbrev pub plans : {D S : Type 0} (d : Design.Ghosts D) {w : Source.Ghosts S} → Survey D S d w → Plans
plans d s = d.plan s.design

-- the words that wait in the source
abbrev pub words : {D S : Type 0} {d : Design.Ghosts D} (w : Source.Ghosts S) → Survey D S d w → List ℕ
words w s = w.waiting s.source

-- the survey s means the state st
pub record Means {D S : Type 0} (d : Design.Ghosts D) (w : Source.Ghosts S) (s : Survey D S d w) (st : State) : Type 0 where
  pub waiting : words w s ≡ st.words
  pub run : RunMeans (plans d s) (d.tree s.design) s.weights s.running st.run

-- every survey means some state
abbrev pub AllMeanSome : {D S : Type 0} (d : Design.Ghosts D) (w : Source.Ghosts S) → Type 0
AllMeanSome {D} {S} d w = (s : Survey D S d w) → ∥ ((st : State) × Means d w s st) ∥₁

-- a new survey over this design and this source: no run stands, whatever the design did before, and no word is taken
pub record IsNew {D S : Type 0} (d : Design.Ghosts D) (w : Source.Ghosts S) (design : D) (source : S) (s : Survey D S d w) : Type 0 where
  pub means : Means d w s (record { words = w.waiting source; run = None })
  pub settings : plans d s ≡ d.plan design

-- ---- what calls promise, of each state that the survey means before them
-- a question is answered so
abbrev pub Tells : {D S A : Type 0} (d : Design.Ghosts D) (w : Source.Ghosts S) → Survey D S d w → Result A Fault → (State → Result A Refusal) → Type 0
Tells d w s result answer = (st : State) → Means d w s st → told result ≡ answer st

-- the share of every unit is exact
abbrev pub AllExact : {D S : Type 0} (d : Design.Ghosts D) (w : Source.Ghosts S) → Survey D S d w → Type 0
AllExact d w s = (st : State) → Means d w s st → ExactShares (plans d s) st.run

-- its tree has no more ways than a throw may have
abbrev pub FewWays : {D S : Type 0} (d : Design.Ghosts D) (w : Source.Ghosts S) → Survey D S d w → Type 0
FewWays d w s = (st : State) → Means d w s st → ways_now st.run ≤ 10240000

-- a call has brought the survey to this state, in which the share of every unit is exact
pub record ComesTo {D S : Type 0} (d : Design.Ghosts D) (w : Source.Ghosts S) (old new : Survey D S d w) (st : State) : Type 0 where
  pub means : Means d w new st
  pub exact : ExactShares (plans d old) st.run

-- the survey comes to the state that `next` makes of it
abbrev pub Follows : {D S : Type 0} (d : Design.Ghosts D) (w : Source.Ghosts S) → Survey D S d w → Survey D S d w → (State → State) → Type 0
Follows d w old new next = (st : State) → Means d w old st → ComesTo d w old new (next st)

-- ---- totals
-- the kind of a total, and the total itself
abbrev pub kind_of : {T R : Type 0} → Total.Ghosts T R → Kind R
kind_of t = record { is_lawful = t.is_lawful; row = t.row; width = t.WIDTH }

abbrev pub tally_of : {T R : Type 0} → Total.Ghosts T R → T → Tally
tally_of t total = record { entries = t.entries total; additions = t.additions total }

-- a question leaves so much in the caller's total
abbrev pub Leaves : {D S T R : Type 0} (d : Design.Ghosts D) (w : Source.Ghosts S) → Total.Ghosts T R → Survey D S d w → T → T → (State → Tally → Tally) → Type 0
Leaves d w t s old new left = (st : State) → Means d w s st → tally_of t new ≡ left st (tally_of t old)

-- a report that is asked for leaves so much in several totals
abbrev pub LeavesTallies : {D S : Type 0} (d : Design.Ghosts D) (w : Source.Ghosts S) → Survey D S d w → Request → List Tally → List Tally → Type 0
LeavesTallies d w s q old new = (st : State) → Means d w s st → new ≡ request_tallies q (plans d s) st.run old

-- each of its entries is the estimate of Horvitz and Thompson from these readings, times the scale
abbrev pub HasEstimates : {D S T R : Type 0} (d : Design.Ghosts D) (w : Source.Ghosts S) → Total.Ghosts T R → Survey D S d w → List R → ℕ → T → Type 0
HasEstimates d w t s readings scale total = (st : State) → Means d w s st → Estimates (kind_of t) (plans d s) st.run readings scale (t.entries total)
