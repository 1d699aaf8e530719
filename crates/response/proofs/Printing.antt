-- What is printed for a frame, once its survey is drawn out.
use Rattle.std.proofs.Common.{◌≡◌, refl, ℕ, true, false, cond, List, Some, None, Option, sym, ap, subst, ◌∙◌, eqb}
use Rattle.design.specs.Faults.{Refusal, numbered}
use Rattle.design.specs.Plans.{Plans}
use Rattle.design.specs.declared.design.Design as Design
use Rattle.design.specs.declared.fault.Fault.{Fault}
use Rattle.design.specs.declared.row.Row.{Row}
use Rattle.throws.specs.declared.source.Source as Source
use Rattle.plain_survey.specs.States.{PlainRun, State}
use Rattle.plain_survey.specs.Calls.{start_refusal, start_after}
use Rattle.survey.specs.declared.survey.Survey.{Survey}
use Rattle.frame_file.specs.declared.frame.Frame.{Frame}
use Rattle.response.specs.Responses.{list_of, run_text, end_text, refusal_line, PrintsStarted, PrintsWith}
use Rattle.response.specs.Runs.{DrawnTo}

pub prints_drawn : {D S : Type 0} (d : Design.Ghosts D) (w : Source.Ghosts S) (s : Survey D S d w) (P : Plans) (f : Frame) (st : State) (o : Option Refusal) (x : Fault) (out : List ℕ) → o ≡ None
    → (h : DrawnTo d w st x s) → out ≡ end_text P f (numbered x) h.end.run → PrintsStarted o P f st out
prints_drawn d w s P f st o x out e h is =
    subst (λ y. PrintsStarted y P f st out) (sym e) (record { refusal = numbered x; end = h.end; drawn = h.drawn; printed = is })

pub at_outcome : (P : Plans) (f : Frame) (x : Refusal) (run : Option PlainRun) (r : PlainRun) → run ≡ Some r → eqb x.number 17 ≡ true → run_text P f r ≡ end_text P f x run
at_outcome P f x run r e is = ap (λ b. cond b (run_text P f r) (refusal_line x)) (sym is) ∙ ap (end_text P f x) (sym e)

pub at_refusal : (P : Plans) (f : Frame) (x : Refusal) (run : Option PlainRun) → eqb x.number 17 ≡ false → refusal_line x ≡ end_text P f x run
at_refusal P f x None is = refl
at_refusal P f x (Some r) is = ap (λ b. cond b (run_text P f r) (refusal_line x)) (sym is)

pub on_list : (P : Plans) (words : List ℕ) (f : Frame) (list : List Row) (out : List ℕ) → list ≡ list_of f
    → PrintsStarted (start_refusal (P list f.header.n) list) P f (start_after (P list f.header.n) list f.header.n words) out → PrintsWith P words f out
on_list P words f list out listed h = subst (λ l. PrintsStarted (start_refusal (P l f.header.n) l) P f (start_after (P l f.header.n) l f.header.n words) out) listed h
