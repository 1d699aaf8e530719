-- There is something to print: draws come to an end, for each frame, and in response to what is written of it.
use Rattle.std.proofs.Common.{◌≡◌, ℕ, zero, suc, ◌<◌, ◌≤◌, List, length, Some, None, Ok, Err, Option, Result, refl, sym, ap, subst, ◌∙◌, arith}
use native.Mathlib.Decide.{ℕ_discrete}
use Rattle.design.specs.Faults.{Refusal}
use Rattle.design.specs.Plans.{Plans}
use Rattle.plain_survey.specs.States.{State}
use Rattle.plain_survey.specs.Calls.{draw_answer, draw_after, start_after, start_refusal}
use Rattle.frame_file.specs.declared.frame.Frame.{Frame}
use Rattle.frame_file.specs.Faults.{FileRefusal}
use Rattle.frame_file.specs.Written.{written}
use Rattle.frame_laws.proofs.WrittenAccepted.{written_is_accepted}
use Rattle.response.specs.Drawing.{draws, DrawnOut}
use Rattle.response.specs.Responses.{list_of, plans_of, words_of, refusal_line, end_text, PrintsStarted, PrintsFor, RespondsTo}
use Rattle.response.specs.Laws.{SomeResponse}
use Rattle.response.proofs.Draws.{draw_takes_word}

-- ---- draws
-- draws from the state st come to an end
record Ends (st : State) : Type 0 where
  refusal : Refusal
  end : State
  drawn : DrawnOut st refusal end

-- k draws are accepted, and then n words wait at most
drawn_on : (n : ℕ) (st : State) (k : ℕ) → ((j : ℕ) → j < k → draw_answer (draws j st) ≡ Ok tt) → length (draws k st).words ≤ n
    → (r : Result (Unit {0}) Refusal) → draw_answer (draws k st) ≡ r → Ends st
drawn_on n st k accepted few (Err x) e = record {
  refusal = x;
  end = draw_after (draws k st);
  drawn = record { count = k; accepted = accepted; refused = e; leaves = refl };
}
drawn_on zero st k accepted few (Ok u) e = absurd (omega (arith, draw_takes_word (draws k st) e, few))
drawn_on (suc n) st k accepted few (Ok u) e =
    drawn_on n st (suc k)
    (λ j l. elim (ℕ_discrete j k) [
      | yes same ↦ ap (λ i. draw_answer (draws i st)) same ∙ e
      | no other ↦ accepted j (omega arith)
    ])
    (omega (arith, draw_takes_word (draws k st) e, few)) (draw_answer (draws (suc k) st)) refl

ends : (st : State) → Ends st
ends st = drawn_on (length st.words) st 0 (λ j l. absurd (omega (arith, l))) (omega arith) (draw_answer st) refl

-- ---- frames and files
some_text : (P : Plans) (f : Frame) (st : State) (o : Option Refusal) → (out : List ℕ) × PrintsStarted o P f st out
some_text P f st (Some x) = (refusal_line x, refl)
some_text P f st None =
    let e = ends st in
    (end_text P f e.refusal e.end.run, record { refusal = e.refusal; end = e.end; drawn = e.drawn; printed = refl })

some_printed : (f : Frame) → (out : List ℕ) × PrintsFor f out
some_printed f =
    let p = plans_of f (list_of f) f.header.n in
    some_text (plans_of f) f (start_after p (list_of f) f.header.n (words_of f)) (start_refusal p (list_of f))

pub some_response : SomeResponse
some_response f fits =
    let s = some_printed f in (
      s.0,
      subst (λ (o : Option FileRefusal). RespondsTo o (written f) s.0) (sym (written_is_accepted f fits))
          (record { frame = f; bytes_are = refl; fits = fits; prints = s.1 }),
    )
