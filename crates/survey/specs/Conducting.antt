-- Any call of a survey, and any list of calls: at each of them it is what the plain survey is.
use Rattle.std.specs.Prelude.{◌≡◌, List, [], ◌∷◌, length, take, drop}
use Rattle.design.specs.declared.design.Design as Design
use Rattle.throws.specs.declared.source.Source as Source
use Rattle.plain_survey.specs.States.{State}
use Rattle.plain_survey.specs.Asking.{Rules, WithTotals, Reply, reply_of, reply, after, replies, after_all, LawsAfter}
use Rattle.plain_survey.specs.declared.call.Call.{Call}
use Rattle.plain_survey.specs.declared.call.Answer.{Answer}
use Rattle.survey.specs.Means.{Means, plans}
use Rattle.survey.specs.declared.ledger.Ledger as Ledger
use Rattle.survey.specs.declared.survey.Survey.{Survey}

-- what the settings of a survey's design fix, and which reports are asked for
abbrev pub rules_of : {D S L Q : Type 0} (d : Design.Ghosts D) {w : Source.Ghosts S} → Ledger.Ghosts L Q → Survey D S d w → Rules Q
rules_of d l s = record { plans = plans d s; requested = l.requested }

-- the plain survey's state, and the caller's totals
abbrev pub with_totals : {L Q : Type 0} → Ledger.Ghosts L Q → State → L → WithTotals
with_totals l st ledger = record { state = st; totals = l.tallies ledger }

-- a call, asked of the plain survey v: the answer is its answer, the survey and the totals are what they are after it, and the laws hold
pub record DoesAs {D S L Q : Type 0} (d : Design.Ghosts D) (w : Source.Ghosts S) (l : Ledger.Ghosts L Q) (rules : Rules Q) (v : WithTotals) (call : Call Q) (answer : Answer) (new : Survey D S d w) (ledger : L) : Type 0 where
  pub answers : reply_of answer ≡ reply rules v call
  pub means : Means d w new (after rules v call).state
  pub leaves : l.tallies ledger ≡ (after rules v call).totals
  pub laws : LawsAfter rules v call

-- a call leads from one survey and its totals to the next, as it does from each state that the survey means; the settings stay
pub record Obeys {D S L Q : Type 0} (d : Design.Ghosts D) (w : Source.Ghosts S) (l : Ledger.Ghosts L Q) (call : Call Q) (answer : Answer) (old : Survey D S d w) (ledger_old : L) (new : Survey D S d w) (ledger_new : L) : Type 0 where
  pub settings : plans d new ≡ plans d old
  pub does : (st : State) → Means d w old st → DoesAs d w l (rules_of d l old) (with_totals l st ledger_old) call answer new ledger_new

-- ---- a list of calls, and places for their answers: one for each, or fewer, or more
-- the calls that have a place
abbrev pub placed : {Q : Type 0} → List (Call Q) → List Answer → List (Call Q)
placed calls places = take (length places) calls

-- the answers to these, and the places that are left
abbrev pub answered : {Q : Type 0} → List (Call Q) → List Answer → List Answer
answered calls places = take (length calls) places

abbrev pub unanswered : {Q : Type 0} → List (Call Q) → List Answer → List Answer
unanswered calls places = drop (length calls) places

-- calls made one after another, each from the survey and the totals that the one before it left
abbrev pub EachObeys : {D S L Q : Type 0} (d : Design.Ghosts D) (w : Source.Ghosts S) → Ledger.Ghosts L Q → List (Call Q) → List Answer → Survey D S d w → L → Survey D S d w → L → Type 0
EachObeys d w l [] [] old ledger_old new ledger_new = (new ≡ old) × (ledger_new ≡ ledger_old)
EachObeys d w l [] (a ∷ more) old ledger_old new ledger_new = ⊥
EachObeys d w l (c ∷ cs) [] old ledger_old new ledger_new = ⊥
EachObeys {D} {S} {L} d w l (c ∷ cs) (a ∷ more) old ledger_old new ledger_new =
    (between : Survey D S d w) × (ledger : L) × Obeys d w l c a old ledger_old between ledger × EachObeys d w l cs more between ledger new ledger_new

abbrev pub replies_of : List Answer → List Reply
replies_of [] = []
replies_of (a ∷ more) = reply_of a ∷ replies_of more

-- the whole list, asked of the plain survey v: all answers are its answers, and the survey and the totals are what they are at last
pub record AllAs {D S L Q : Type 0} (d : Design.Ghosts D) (w : Source.Ghosts S) (l : Ledger.Ghosts L Q) (rules : Rules Q) (v : WithTotals) (calls : List (Call Q)) (answers : List Answer) (new : Survey D S d w) (ledger : L) : Type 0 where
  pub answers_are : replies_of answers ≡ replies rules v calls
  pub means : Means d w new (after_all rules v calls).state
  pub leaves : l.tallies ledger ≡ (after_all rules v calls).totals

-- so it is from each state that the survey means
abbrev pub ListObeys : {D S L Q : Type 0} (d : Design.Ghosts D) (w : Source.Ghosts S) → Ledger.Ghosts L Q → List (Call Q) → List Answer → Survey D S d w → L → Survey D S d w → L → Type 0
ListObeys d w l calls answers old ledger_old new ledger_new = (st : State) → Means d w old st → AllAs d w l (rules_of d l old) (with_totals l st ledger_old) calls answers new ledger_new
