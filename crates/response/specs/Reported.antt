-- What is reported of a run that has come to its outcome.
use Rattle.std.specs.Prelude.{◌≡◌, ℕ, ℤ, List, ◌++◌, length, Result, String, string_bytes}
use Rattle.std.specs.Global.{Global}
use Rattle.design.specs.Plans.{Plans, outcome}
use Rattle.design.specs.declared.design.Design as Design
use Rattle.design.specs.Fractions.{Fraction}
use Rattle.throws.specs.declared.source.Source as Source
use Rattle.plain_survey.specs.States.{PlainRun}
use Rattle.plain_survey.specs.Kinds.{money_kind, table_kind}
use Rattle.plain_survey.specs.Reports.{Kind, reported, report_of}
use Rattle.survey.specs.Means.{plans}
use Rattle.survey.specs.declared.survey.Survey.{Survey}
use Rattle.totals.specs.declared.total.Total as Total
use Rattle.totals.specs.declared.money.Money.{Money}
use Rattle.totals.specs.declared.table.Cell.{Cell}
use Rattle.totals.specs.declared.table.Table.{Table}
use Rattle.sample_file.specs.Text.{unit_lines}
use Rattle.frame_file.specs.declared.frame.Frame.{Frame}
use Rattle.response.specs.declared.failure.Failure.{Failure}
use Rattle.response.specs.declared.reporting.Tallies.{Tallies}
use Rattle.response.specs.Failures.{Gets}
use Rattle.response.specs.Responses.{list_of, amounts_of, cells_of, run_text}
use Rattle.response.specs.Runs.{EndsAt, in_order, prescribed_shares}

-- the run r on the frame's list has come to its outcome
pub record Sampled {D S : Type 0} (d : Design.Ghosts D) (w : Source.Ghosts S) (s : Survey D S d w) (f : Frame) (r : PlainRun) : Type 0 where
  pub ends : EndsAt d w s r
  pub listed : r.list ≡ list_of f

-- the scale that reporting readings answers, and the entries that it leaves
pub record Tallied {R : Type 0} (kind : Kind R) (P : Plans) (r : PlainRun) (readings : List R) (scale : ℕ) (entries : List ℤ) : Type 0 where
  pub scale_is : scale ≡ (reported P r).0
  pub entries_are : entries ≡ (report_of kind P r (outcome r.tree) readings).entries

-- the same of both totals, with the frame's readings
pub record BothTallied (P : Plans) (f : Frame) (r : PlainRun) (scale : ℕ) (money table : List ℤ) : Type 0 where
  pub of_money : Tallied money_kind P r (amounts_of f) scale money
  pub of_table : table ≡ (report_of table_kind P r (outcome r.tree) (cells_of f)).entries

-- of each run on the frame's list that has come to its outcome, these are the scale and both totals
abbrev pub GivesTallies : {D S : Type 0} (d : Design.Ghosts D) (w : Source.Ghosts S) → Total.Ghosts Money ℤ → Total.Ghosts Table Cell → Survey D S d w → Frame → Result Tallies Failure → Type 0
GivesTallies d w m t s f result =
    (r : PlainRun) → Sampled d w s f r → Gets (λ x. BothTallied (plans d s) f r x.scale (m.entries x.money) (t.entries x.table)) result

-- of each such run, where these are its prescribed shares, this is the text
abbrev pub GivesText : {D S : Type 0} (d : Design.Ghosts D) (w : Source.Ghosts S) → Survey D S d w → Frame → List Fraction → Result (String Global) Failure → Type 0
GivesText d w s f shares result =
    (r : PlainRun) → Sampled d w s f r → shares ≡ prescribed_shares (plans d s) r → Gets (λ text. string_bytes text ≡ run_text (plans d s) f r) result

-- ---- of each run that has come to its outcome
-- readings, as many as its units, give this scale and these entries
abbrev pub GivesTally : {D S R : Type 0} (d : Design.Ghosts D) (w : Source.Ghosts S) → Kind R → Survey D S d w → List R → List ℤ → Result ℕ Failure → Type 0
GivesTally d w kind s readings entries result =
    (r : PlainRun) → EndsAt d w s r → length readings ≡ length r.list → Gets (λ scale. Tallied kind (plans d s) r readings scale entries) result

-- the line of each of its units taken is appended, with the unit's share of these
abbrev pub AppendsTaken : {D S U : Type 0} (d : Design.Ghosts D) (w : Source.Ghosts S) → Survey D S d w → List Fraction → List ℕ → List ℕ → Result U Failure → Type 0
AppendsTaken d w s shares old new result =
    (r : PlainRun) (share : ℕ → Fraction) → EndsAt d w s r → shares ≡ in_order (length r.list) share
    → Gets (λ _. new ≡ old ++ unit_lines (length r.list) (outcome r.tree) share) result
