-- Draws of the plain survey, one after another, until one is refused.
use Rattle.std.specs.Prelude.{◌≡◌, ℕ, zero, suc, ◌<◌, Ok, Err}
use Rattle.design.specs.Faults.{Refusal}
use Rattle.plain_survey.specs.States.{State}
use Rattle.plain_survey.specs.Calls.{draw_answer, draw_after}

-- the state after so many draws
abbrev pub draws : ℕ → State → State
draws zero st = st
draws (suc k) st = draw_after (draws k st)

-- so many draws are accepted; the next one is refused with x, and leaves the state at the end
pub record DrawnOut (st : State) (x : Refusal) (end : State) : Type 0 where
  pub count : ℕ
  pub accepted : (k : ℕ) → k < count → draw_answer (draws k st) ≡ Ok tt
  pub refused : draw_answer (draws count st) ≡ Err x
  pub leaves : end ≡ draw_after (draws count st)
