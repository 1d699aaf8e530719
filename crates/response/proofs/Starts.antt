-- A survey that was started on a list, and not refused.
use Rattle.std.proofs.Common.{◌≡◌, refl, ℕ, List, length, Some, None, Ok, Option, sym, subst}
use Rattle.design.specs.Faults.{Refusal}
use Rattle.design.specs.Plans.{Plans, share_of}
use Rattle.design.specs.declared.design.Design as Design
use Rattle.design.specs.declared.row.Row.{Row}
use Rattle.throws.specs.declared.source.Source as Source
use Rattle.plain_survey.specs.Calls.{answer, start_refusal, start_answer, start_after, first_run, begun, share_now}
use Rattle.plain_survey.specs.Laws.{FirstShares, FairStart}
use Rattle.survey.specs.Means.{ComesTo, Means, plans}
use Rattle.survey.specs.declared.survey.Survey.{Survey}
use Rattle.response.specs.Runs.{StandsAt, prescribed_shares, shares_now}
use Rattle.response.proofs.InOrder.{same_in_order}
use Rattle.response.proofs.Values.{never_refused}

pub record Started {D S : Type 0} (d : Design.Ghosts D) (w : Source.Ghosts S) (s : Survey D S d w) (P : Plans) (list : List Row) (n : ℕ) (words : List ℕ) : Type 0 where
  pub unrefused : start_refusal (P list n) list ≡ None
  pub means : Means d w s (start_after (P list n) list n words)
  pub shares : FirstShares (P list n) list

accepted : (o : Option Refusal) (u : Unit {0}) → Ok u ≡ answer o tt → o ≡ None
accepted None u e = refl
accepted (Some f) u e = never_refused (answer (Some f) tt) u f (sym e) refl

pub started : {D S : Type 0} (d : Design.Ghosts D) (w : Source.Ghosts S) (old new : Survey D S d w) (list : List Row) (n : ℕ) (words : List ℕ) (u : Unit {0})
    → Ok u ≡ start_answer (plans d old list n) list → ComesTo d w old new (start_after (plans d old list n) list n words) → FairStart (plans d old list n) list
    → Started d w new (plans d old) list n words
started d w old new list n words u answers comes fair = record {
  unrefused = accepted (start_refusal (plans d old list n) list) u answers;
  means = comes.means;
  shares = fair.shares;
}

pub stands_first : {D S : Type 0} (d : Design.Ghosts D) (w : Source.Ghosts S) (s : Survey D S d w) (P : Plans) (list : List Row) (n : ℕ) (words : List ℕ)
    → Started d w s P list n words → StandsAt d w s (first_run (P list n) list n)
stands_first d w s P list n words h = record {
  waiting = words;
  means = subst (λ o. Means d w s (record { words = words; run = begun o (first_run (P list n) list n) })) h.unrefused h.means;
}

-- at first shares are the prescribed ones
pub prescribed_first : (P : Plans) (list : List Row) (n : ℕ) → FirstShares (P list n) list → shares_now P (first_run (P list n) list n) ≡ prescribed_shares P (first_run (P list n) list n)
prescribed_first P list n h = same_in_order (length list) (share_now P (first_run (P list n) list n)) (share_of (P list n)) h
