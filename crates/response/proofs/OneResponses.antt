-- What is printed is settled: at each draw, by each frame, and in response to each file.
use Rattle.std.proofs.Common.{◌≡◌, ℕ, ◌<◌, inl, inr, List, Some, None, Err, Option, Result, sym, ap, subst, ◌∙◌, arith}
use Rattle.std.proofs.lemmas.Bool.{cases_lt}
use Rattle.design.specs.Faults.{Refusal}
use Rattle.design.specs.Plans.{Plans}
use Rattle.plain_survey.specs.States.{State}
use Rattle.plain_survey.specs.Calls.{draw_answer, draw_after, start_after, start_refusal}
use Rattle.frame_file.specs.declared.frame.Frame.{Frame}
use Rattle.frame_file.specs.Faults.{FileRefusal}
use Rattle.frame_file.specs.Refusals.{file_refusal}
use Rattle.frame_laws.proofs.WrittenOnce.{written_once}
use Rattle.response.specs.Drawing.{draws, DrawnOut}
use Rattle.response.specs.Responses.{list_of, plans_of, words_of, end_text, PrintsStarted, PrintsFor, RespondsTo}
use Rattle.response.specs.Laws.{OneResponse}
use Rattle.response.proofs.Values.{never_refused}

-- ---- draws
-- no draw before the first that is refused is refused
not_before : (st end end' : State) (x y : Refusal) (a : DrawnOut st x end) (b : DrawnOut st y end') → a.count < b.count → ⊥
not_before st end end' x y a b l = never_refused (draw_answer (draws a.count st)) tt x (b.accepted a.count l) a.refused

one_count : (st end end' : State) (x y : Refusal) (a : DrawnOut st x end) (b : DrawnOut st y end') → a.count ≡ b.count
one_count st end end' x y a b = elim (cases_lt a.count b.count) [
  | inl l ↦ absurd (not_before st end end' x y a b l)
  | inr m ↦ elim (cases_lt b.count a.count) [ inl l ↦ absurd (not_before st end' end y x b a l) | inr n ↦ omega arith ]
]

one_refusal : (st end end' : State) (x y : Refusal) → DrawnOut st x end → DrawnOut st y end' → x ≡ y
one_refusal st end end' x y a b =
    same_error (sym a.refused ∙ ap (λ k. draw_answer (draws k st)) (one_count st end end' x y a b) ∙ b.refused)
  where
    same_error : ◌≡◌ {A = Result (Unit {0}) Refusal} (Err x) (Err y) → x ≡ y
    same_error e = cc

one_end : (st end end' : State) (x y : Refusal) → DrawnOut st x end → DrawnOut st y end' → end ≡ end'
one_end st end end' x y a b = a.leaves ∙ ap (λ k. draw_after (draws k st)) (one_count st end end' x y a b) ∙ sym b.leaves

-- ---- frames and files
one_text : (P : Plans) (f : Frame) (st : State) (o : Option Refusal) (a b : List ℕ) → PrintsStarted o P f st a → PrintsStarted o P f st b → a ≡ b
one_text P f st (Some x) a b h k = h ∙ sym k
one_text P f st None a b h k =
    h.printed ∙ ap (λ x. end_text P f x h.end.run) (one_refusal st h.end k.end h.refusal k.refusal h.drawn k.drawn)
    ∙ ap (λ (e : State). end_text P f k.refusal e.run) (one_end st h.end k.end h.refusal k.refusal h.drawn k.drawn) ∙ sym k.printed

one_printed : (f : Frame) (a b : List ℕ) → PrintsFor f a → PrintsFor f b → a ≡ b
one_printed f a b h k =
    let p = plans_of f (list_of f) f.header.n in
    one_text (plans_of f) f (start_after p (list_of f) f.header.n (words_of f)) (start_refusal p (list_of f)) a b h k

one_answer : (o : Option FileRefusal) (bytes a b : List ℕ) → RespondsTo o bytes a → RespondsTo o bytes b → a ≡ b
one_answer (Some x) bytes a b h k = h ∙ sym k
one_answer None bytes a b h k =
    let same = written_once h.frame k.frame h.fits k.fits (sym h.bytes_are ∙ k.bytes_are) in
    one_printed h.frame a b h.prints (subst (λ f. PrintsFor f b) (sym same) k.prints)

pub one_response : OneResponse
one_response bytes a b h k = one_answer (file_refusal bytes) bytes a b h k
