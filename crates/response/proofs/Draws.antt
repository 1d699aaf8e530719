-- Draws that are accepted, one after another: where they lead, and that each takes a word.
use Rattle.std.proofs.Common.{◌≡◌, ℕ, suc, ◌<◌, ◌≤◌, Bool, true, false, cond, List, [], ◌∷◌, length, Ok, Err, Result, refl, sym, ap, ◌∙◌, ltb, eqb, arith}
use native.Mathlib.Decide.{ℕ_discrete}
use mathlib.Core.Logic.{∥∥₁_elim}
use Rattle.std.proofs.Math.Bridge.{le_prop}
use Rattle.design.specs.Faults.{refusal, told}
use Rattle.design.specs.declared.design.Design as Design
use Rattle.design.specs.declared.fault.Fault.{Fault}
use Rattle.throws.specs.Words.{serving, rest, remainder, limit, in_range}
use Rattle.throws.specs.declared.source.Source as Source
use Rattle.plain_survey.specs.States.{State, ways_now}
use Rattle.plain_survey.specs.Calls.{draw_answer, draw_after, passed, throw_now}
use Rattle.survey.specs.Means.{Follows, Means, Tells, words}
use Rattle.survey.specs.declared.survey.Survey.{Survey}
use Rattle.survey.proofs.SomeState.{all_mean_some}
use Rattle.response.specs.Drawing.{draws}
use Rattle.response.specs.Runs.{DrawsOut}
use Rattle.response.proofs.Values.{never_refused}

-- ---- words
serving_shorter : (m : ℕ) (ws : List ℕ) → length (serving m ws) ≤ length ws
serving_shorter m [] = omega arith
serving_shorter m (w ∷ ws) = go (ltb w m) (serving_shorter m ws)
  where
    go : (b : Bool) → length (serving m ws) ≤ length ws → length (cond b (w ∷ ws) (serving m ws)) ≤ length (w ∷ ws)
    go true h = omega arith
    go false h = omega arith

throw_takes_word : (b : Bool) (m : ℕ) (xs ws : List ℕ) → length xs ≤ length ws → passed (cond b (remainder m xs) (Err (refusal 20))) ≡ Ok tt → length (cond b (rest xs) ws) < length ws
throw_takes_word false m xs ws l e = never_refused (Err (refusal 20)) tt (refusal 20) e refl
throw_takes_word true m [] ws l e = never_refused (Err (refusal 21)) tt (refusal 21) e refl
throw_takes_word true m (x ∷ xs) ws l e = omega arith

-- a draw that is accepted leaves fewer words
pub draw_takes_word : (st : State) → draw_answer st ≡ Ok tt → length (draw_after st).words < length st.words
draw_takes_word st e =
    throw_takes_word (in_range m) m (serving (limit m) st.words) st.words (serving_shorter (limit m) st.words) (go (eqb m 0) e)
  where
    m : ℕ
    m = ways_now st.run

    go : (b : Bool) → cond b (Err (refusal 17)) (passed (throw_now st)) ≡ Ok tt → passed (throw_now st) ≡ Ok tt
    go true e = never_refused (Err (refusal 17)) tt (refusal 17) e refl
    go false e = e

-- ---- draws so far
-- from the state st so many draws were accepted, and the survey means the state after them
pub record Drawn {D S : Type 0} (d : Design.Ghosts D) (w : Source.Ghosts S) (st : State) (s : Survey D S d w) : Type 0 where
  pub count : ℕ
  pub accepted : (k : ℕ) → k < count → draw_answer (draws k st) ≡ Ok tt
  pub means : Means d w s (draws count st)

-- so it is from each state that the survey meant at first
abbrev pub DrawnSoFar : {D S : Type 0} (d : Design.Ghosts D) (w : Source.Ghosts S) → Survey D S d w → Survey D S d w → Type 0
DrawnSoFar d w old now = (st : State) → Means d w old st → Drawn d w st now

-- a draw that is accepted is one more
pub one_draw_more : {D S : Type 0} (d : Design.Ghosts D) (w : Source.Ghosts S) (old now new : Survey D S d w) (result : Result (Unit {0}) Fault) (u : Unit {0}) → result ≡ Ok u
    → Tells d w now result draw_answer → Follows d w now new draw_after → DrawnSoFar d w old now → DrawnSoFar d w old new
one_draw_more d w old now new result u is tells follows so_far st m =
    let x = so_far st m in
    let here : draw_answer (draws x.count st) ≡ Ok tt = sym (tells (draws x.count st) x.means) ∙ ap told is in
    record {
      count = suc x.count;
      accepted = λ k l. elim (ℕ_discrete k x.count) [
        | yes same ↦ ap (λ n. draw_answer (draws n st)) same ∙ here
        | no other ↦ x.accepted k (omega arith)
      ];
      means = (follows (draws x.count st) x.means).means;
    }

-- and a draw that is refused is the last
pub last_draw : {D S : Type 0} (d : Design.Ghosts D) (w : Source.Ghosts S) (old now new : Survey D S d w) (result : Result (Unit {0}) Fault) (x : Fault) → result ≡ Err x
    → Tells d w now result draw_answer → Follows d w now new draw_after → DrawnSoFar d w old now → DrawsOut d w old x new
last_draw d w old now new result x is tells follows so_far st m =
    let n = so_far st m in
    record {
      end = draw_after (draws n.count st);
      drawn = record {
        count = n.count;
        accepted = n.accepted;
        refused = sym (tells (draws n.count st) n.means) ∙ ap told is;
        leaves = refl;
      };
      means = (follows (draws n.count st) n.means).means;
    }

-- an accepted draw leaves fewer words in the source of a survey
pub survey_takes_word : {D S : Type 0} (d : Design.Ghosts D) (w : Source.Ghosts S) (now new : Survey D S d w) (result : Result (Unit {0}) Fault) (u : Unit {0}) → result ≡ Ok u
    → Tells d w now result draw_answer → Follows d w now new draw_after → length (words w new) < length (words w now)
survey_takes_word d w now new result u is tells follows = ∥∥₁_elim (all_mean_some d w now) le_prop (λ k. takes k.0 k.1)
  where
    takes : (st : State) → Means d w now st → length (words w new) < length (words w now)
    takes st m = let fewer = draw_takes_word st (sym (tells st m) ∙ ap told is) in omega (arith, fewer, ap length m.waiting, ap length (follows st m).means.waiting)
