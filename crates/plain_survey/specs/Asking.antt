-- Any call of the plain survey with a caller's totals, and lists of calls.
use Rattle.std.specs.Prelude.{◌≡◌, ℕ, Bool, List, [], ◌∷◌, None, Ok, Result}
use Rattle.design.specs.Faults.{Refusal, told}
use Rattle.design.specs.Plans.{Plans}
use Rattle.design.specs.Fractions.{Fraction}
use Rattle.design.specs.declared.row.Row.{Row}
use Rattle.plain_survey.specs.States.{State}
use Rattle.plain_survey.specs.Calls.{start_refusal, start_answer, first_run, start_after, stop_after, draw_answer, draw_after, taken_answer, share_answer}
use Rattle.plain_survey.specs.Reports.{Tally}
use Rattle.plain_survey.specs.Requests.{Request, RowsFit, kind_in, request_answer, request_tallies}
use Rattle.plain_survey.specs.Estimates.{EstimatesFor}
use Rattle.plain_survey.specs.Laws.{ExactShares, FirstShares, FairReport}
use Rattle.plain_survey.specs.declared.call.Call.{Call}
use Rattle.plain_survey.specs.declared.call.Call.TheVariants.{Start, Draw, Taken as TakenOf, Share, Report as ReportOn, Stop}
use Rattle.plain_survey.specs.declared.call.Answer.{Answer}
use Rattle.plain_survey.specs.declared.call.Answer.TheVariants.{Started, Drawn, Taken, Shared, Reported, Stopped}

-- what a call answers, its faults by their numbers
pub data Reply : Type 0 where
  started : Result (Unit {0}) Refusal → Reply
  drawn : Result (Unit {0}) Refusal → Reply
  taken : Result Bool Refusal → Reply
  shared : Result Fraction Refusal → Reply
  reported : Result (ℕ × ℕ) Refusal → Reply
  stopped : Reply

-- the reply that an answer gives
abbrev pub reply_of : Answer → Reply
reply_of (Started r) = started (told r)
reply_of (Drawn r) = drawn (told r)
reply_of (Taken r) = taken (told r)
reply_of (Shared r) = shared (told r)
reply_of (Reported r) = reported (told r)
reply_of Stopped = stopped

-- what the design's settings fix, and which report each Q asks for
pub record Rules (Q : Type 0) : Type 0 where
  pub plans : Plans
  pub requested : Q → Request

-- the plain survey, and the caller's totals, each of any kind
pub record WithTotals : Type 0 where
  pub state : State
  pub totals : List Tally

-- ---- one call
-- what the plain survey replies to it
abbrev pub reply : {Q : Type 0} → Rules Q → WithTotals → Call Q → Reply
reply rules w (Start list n) = started (start_answer (rules.plans list.now n) list.now)
reply rules w Draw = drawn (draw_answer w.state)
reply rules w (TakenOf k) = taken (taken_answer w.state.run k)
reply rules w (Share k) = shared (share_answer rules.plans w.state.run k)
reply rules w (ReportOn q) = reported (request_answer (rules.requested q) rules.plans w.state.run)
reply rules w Stop = stopped

-- the state after it: start, draw and stop lead to another one
abbrev pub state_after : {Q : Type 0} → Rules Q → State → Call Q → State
state_after rules st (Start list n) = start_after (rules.plans list.now n) list.now n st.words
state_after rules st Draw = draw_after st
state_after rules st (TakenOf k) = st
state_after rules st (Share k) = st
state_after rules st (ReportOn q) = st
state_after rules st Stop = stop_after st.words

-- the caller's totals after it: a report may change the one that it is asked into
abbrev pub totals_after : {Q : Type 0} → Rules Q → WithTotals → Call Q → List Tally
totals_after rules w (Start list n) = w.totals
totals_after rules w Draw = w.totals
totals_after rules w (TakenOf k) = w.totals
totals_after rules w (Share k) = w.totals
totals_after rules w (ReportOn q) = request_tallies (rules.requested q) rules.plans w.state.run w.totals
totals_after rules w Stop = w.totals

-- both of them
abbrev pub after : {Q : Type 0} → Rules Q → WithTotals → Call Q → WithTotals
after rules w c = record { state = state_after rules w.state c; totals = totals_after rules w c }

-- an accepted start: at first each share is the prescribed one, and reports are right on the average, whatever is asked for, of any kind
pub record FairStartFor (P : Plans) (list : List Row) (n : ℕ) : Type 0 where
  pub shares : FirstShares (P list n) list
  pub reports : (q : Request) → RowsFit q → FairReport (kind_in q) P (first_run (P list n) list n) q.readings

-- a call that starts a run is fair in that way, if it is accepted; of the others nothing is said
abbrev pub FairIfStart : {Q : Type 0} → Rules Q → Call Q → Type 0
FairIfStart rules (Start list n) = start_refusal (rules.plans list.now n) list.now ≡ None → FairStartFor rules.plans list.now n
FairIfStart rules Draw = Unit {0}
FairIfStart rules (TakenOf k) = Unit {0}
FairIfStart rules (Share k) = Unit {0}
FairIfStart rules (ReportOn q) = Unit {0}
FairIfStart rules Stop = Unit {0}

-- a report that is accepted leaves estimates in its total, at the scale that it answers; of the other calls nothing is said
abbrev pub EstimatesIfReport : {Q : Type 0} → Rules Q → WithTotals → Call Q → Type 0
EstimatesIfReport rules w (Start list n) = Unit {0}
EstimatesIfReport rules w Draw = Unit {0}
EstimatesIfReport rules w (TakenOf k) = Unit {0}
EstimatesIfReport rules w (Share k) = Unit {0}
EstimatesIfReport rules w (ReportOn q) =
    (scale taken : ℕ) → reply rules w (ReportOn q) ≡ reported (Ok (scale, taken))
    → EstimatesFor (rules.requested q) rules.plans w.state.run scale (totals_after rules w (ReportOn q))
EstimatesIfReport rules w Stop = Unit {0}

-- what holds after a call: all shares are exact, an accepted start is fair, and an accepted report leaves estimates
pub record LawsAfter {Q : Type 0} (rules : Rules Q) (w : WithTotals) (c : Call Q) : Type 0 where
  pub exact : ExactShares rules.plans (after rules w c).state.run
  pub fair : FairIfStart rules c
  pub estimates : EstimatesIfReport rules w c

-- ---- a list of calls
-- the replies, in the order of the calls
abbrev pub replies : {Q : Type 0} → Rules Q → WithTotals → List (Call Q) → List Reply
replies rules w [] = []
replies rules w (c ∷ cs) = reply rules w c ∷ replies rules (after rules w c) cs

-- the plain survey and the totals after all calls
abbrev pub after_all : {Q : Type 0} → Rules Q → WithTotals → List (Call Q) → WithTotals
after_all rules w [] = w
after_all rules w (c ∷ cs) = after_all rules (after rules w c) cs
