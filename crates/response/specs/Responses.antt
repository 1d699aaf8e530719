-- What is printed in response to a frame file.
use Rattle.std.specs.Prelude.{◌≡◌, ℕ, ℤ, cond, List, map, length, Some, None, Option, ◌==◌}
use Rattle.design.specs.Faults.{Refusal}
use Rattle.design.specs.Plans.{Plans, share_of, outcome}
use Rattle.design.specs.declared.row.Row.{Row}
use Rattle.methods.specs.Pivotal.{pivotal_plan}
use Rattle.methods.specs.Systematic.{systematic_plan}
use Rattle.layers.specs.Stratified.{stratified_plan}
use Rattle.layers.specs.TwoStage.{two_stage_plan}
use Rattle.throws.specs.Words.{generator}
use Rattle.totals.specs.declared.table.Cell.{Cell}
use Rattle.plain_survey.specs.States.{PlainRun, State}
use Rattle.plain_survey.specs.Calls.{start_refusal, start_after}
use Rattle.plain_survey.specs.Kinds.{money_kind, table_kind}
use Rattle.plain_survey.specs.Reports.{reported, report_of}
use Rattle.frame_file.specs.declared.frame.Frame.{Frame}
use Rattle.frame_file.specs.Faults.{FileRefusal, of_refusal}
use Rattle.frame_file.specs.Refusals.{file_refusal}
use Rattle.frame_file.specs.Written.{written, Fits}
use Rattle.sample_file.specs.Text.{fault_line, sample_text}
use Rattle.response.specs.Drawing.{DrawnOut}

-- ---- what a frame gives a survey
-- the rows of its units
abbrev pub list_of : Frame → List Row
list_of f = map (λ u. u.row) f.units

-- the readings of both totals
abbrev pub amounts_of : Frame → List ℤ
amounts_of f = map (λ u. u.money) f.units

abbrev pub cells_of : Frame → List Cell
cells_of f = map (λ u. u.cell) f.units

-- by strata, each with its take: clusters by the pivotal method, and m units of each taken cluster by the systematic one
abbrev pub plans_of : Frame → Plans
plans_of f = stratified_plan (two_stage_plan f.header.m pivotal_plan systematic_plan) f.takes

-- the generator at the frame's seed, with 65,536 words
abbrev pub words_of : Frame → List ℕ
words_of f = generator f.header.seed 65536

-- ---- what is printed for a frame, by a survey with the plans P
-- a refusal by the survey, as one of the file
abbrev pub refusal_line : Refusal → List ℕ
refusal_line x = fault_line (of_refusal x)

-- the sample of a run that has come to its outcome: prescribed shares, scale, and the reports of both totals
abbrev pub run_text : Plans → Frame → PlainRun → List ℕ
run_text P f r =
    sample_text (length r.list) (outcome r.tree) (share_of (P r.list r.n)) (reported P r).0
    (report_of money_kind P r (outcome r.tree) (amounts_of f)).entries
    (report_of table_kind P r (outcome r.tree) (cells_of f)).entries

-- where a draw is refused: with 17 the run has come to its outcome
abbrev pub end_text : Plans → Frame → Refusal → Option PlainRun → List ℕ
end_text P f x None = refusal_line x
end_text P f x (Some r) = cond (x.number == 17) (run_text P f r) (refusal_line x)

-- draws are made from the state st until one is refused
pub record PrintsDrawn (P : Plans) (f : Frame) (st : State) (out : List ℕ) : Type 0 where
  pub refusal : Refusal
  pub end : State
  pub drawn : DrawnOut st refusal end
  pub printed : out ≡ end_text P f refusal end.run

-- a start is refused, or draws follow
abbrev pub PrintsStarted : Option Refusal → Plans → Frame → State → List ℕ → Type 0
PrintsStarted (Some x) P f st out = out ≡ refusal_line x
PrintsStarted None P f st out = PrintsDrawn P f st out

-- the survey is started on the frame's list, while these words wait
abbrev pub PrintsWith : Plans → List ℕ → Frame → List ℕ → Type 0
PrintsWith P words f out =
    let p = P (list_of f) f.header.n in
    PrintsStarted (start_refusal p (list_of f)) P f (start_after p (list_of f) f.header.n words) out

-- what is printed for a frame: by the plans that it asks for, and the words of its seed
abbrev pub PrintsFor : Frame → List ℕ → Type 0
PrintsFor f out = PrintsWith (plans_of f) (words_of f) f out

-- ---- the response to a file
-- the bytes are those of a frame in range, for which this is printed
pub record PrintsWritten (bytes out : List ℕ) : Type 0 where
  pub frame : Frame
  pub bytes_are : bytes ≡ written frame
  pub fits : Fits frame
  pub prints : PrintsFor frame out

-- by the refusal of the file, if it has one: that refusal's line, or what its frame gives
abbrev pub RespondsTo : Option FileRefusal → List ℕ → List ℕ → Type 0
RespondsTo (Some x) bytes out = out ≡ fault_line x
RespondsTo None bytes out = PrintsWritten bytes out

-- the response to a file with these bytes: the fault of the file, if it is refused, and else what its frame gives
abbrev pub Responds : List ℕ → List ℕ → Type 0
Responds bytes out = RespondsTo (file_refusal bytes) bytes out
