-- A survey that was started on a list, and that draws have brought to its outcome.
use Rattle.std.proofs.Common.{◌≡◌, refl, ℕ, zero, suc, Bool, true, false, cond, List, [], ◌∷◌, length, Some, None, Ok, Err, Option, Result, sym, ap, subst, ◌∙◌, eqb, arith}
use Rattle.std.proofs.lemmas.Bool.{eqb-true}
use Rattle.outcomes.specs.Trees.{Tree, finished, branching, Sample, Lawful, subtree, ways}
use Rattle.design.specs.Faults.{Refusal, refusal, numbered}
use Rattle.design.specs.Design.{Standing, SoundStanding}
use Rattle.design.specs.Plans.{Plans}
use Rattle.design.specs.declared.design.Design as Design
use Rattle.design.specs.declared.fault.Fault.{Fault}
use Rattle.design.specs.declared.row.Row.{Row}
use Rattle.throws.specs.Words.{serving, remainder, limit, in_range}
use Rattle.throws.specs.declared.source.Source as Source
use Rattle.weights.specs.declared.Weights.{Weights}
use Rattle.plain_survey.specs.States.{PlainRun, State, ways_now, run_after}
use Rattle.plain_survey.specs.Calls.{start_refusal, start_after, first_run, begun, draw_answer, throw_now, passed}
use Rattle.plain_survey.specs.Reports.{is_finished}
use Rattle.survey.specs.Runs.{RunMeans}
use Rattle.survey.specs.Means.{Means, plans}
use Rattle.survey.specs.declared.survey.Survey.{Survey}
use Rattle.survey.proofs.Drawing.{no_throw}
use Rattle.response.specs.Drawing.{draws}
use Rattle.response.specs.Runs.{EndsAt, DrawnTo}
use Rattle.response.proofs.Values.{never_refused}

-- draws keep the list and the sample size
kept : (k : ℕ) (st : State) (r : PlainRun) → st.run ≡ Some r → (t : Tree Sample) × ((draws k st).run ≡ Some (record { list = r.list; n = r.n; tree = t }))
kept zero st r e = (r.tree, e)
kept (suc k) st r e =
    let h = kept k st r e in
    go (throw_now (draws k st)) h.0 (draws k st).run h.1
  where
    go : (x : Result ℕ Refusal) (t : Tree Sample) (run : Option PlainRun) → run ≡ Some (record { list = r.list; n = r.n; tree = t })
        → (t' : Tree Sample) × (run_after x run ≡ Some (record { list = r.list; n = r.n; tree = t' }))
    go (Ok d) t run e = (subtree t d, ap (run_after (Ok d)) e)
    go (Err f) t run e = (t, ap (run_after (Err f)) e)

-- a draw that is refused with 17 had no way
other_number : (x : Refusal) (number : ℕ) → ◌≡◌ {A = Result (Unit {0}) Refusal} (Err (refusal number)) (Err x) → x.number ≡ 17 → number ≡ 17
other_number x number e h = let same : refusal number ≡ x = cc in ap (λ y. y.number) same ∙ h

throw_not_17 : (b : Bool) (m : ℕ) (ws : List ℕ) (x : Refusal) → passed (cond b (remainder m ws) (Err (refusal 20))) ≡ Err x → x.number ≡ 17 → ⊥
throw_not_17 false m ws x e h = let z = other_number x 20 e h in (let y : ⊥ = omega arith in y)
throw_not_17 true m [] x e h = let z = other_number x 21 e h in (let y : ⊥ = omega arith in y)
throw_not_17 true m (w ∷ ws) x e h = never_refused (Ok tt) tt x refl e

no_way : (st : State) (x : Refusal) → draw_answer st ≡ Err x → x.number ≡ 17 → ways_now st.run ≡ 0
no_way st x e h = go (eqb m 0) refl e
  where
    m : ℕ
    m = ways_now st.run

    go : (b : Bool) → eqb m 0 ≡ b → cond b (Err (refusal 17)) (passed (throw_now st)) ≡ Err x → m ≡ 0
    go true is e = eqb-true m 0 is
    go false is e = absurd (throw_not_17 (in_range m) m (serving (limit m) st.words) x e h)

-- a run with no way has come to its outcome
no_way_left : (units : ℕ) (t : Tree Sample) → Lawful units t → ways t ≡ 0 → is_finished t ≡ true
no_way_left units (finished u) lawful none = refl
no_way_left units (branching m sub) lawful none = absurd (omega (arith, lawful.0, none))

run_ended : (P : Plans) (standing : Standing) (w : Weights) (b : Bool) (r : PlainRun) → RunMeans P standing w b (Some r) → SoundStanding standing → ways r.tree ≡ 0
    → is_finished r.tree ≡ true
run_ended P standing w false r m sound none = absurd m
run_ended P standing w true r m sound none = no_way_left (length r.list) r.tree (subst SoundStanding m.stands sound).lawful none

-- where a survey stands that draws have brought to its outcome, and the run of the state that it means
pub record Ended {D S : Type 0} (d : Design.Ghosts D) (w : Source.Ghosts S) (s : Survey D S d w) (list : List Row) (n : ℕ) (end : State) : Type 0 where
  pub tree : Tree Sample
  pub ends : EndsAt d w s (record { list = list; n = n; tree = tree })
  pub run_is : end.run ≡ Some (record { list = list; n = n; tree = tree })

pub ended : {D S : Type 0} (d : Design.Ghosts D) (w : Source.Ghosts S) (s : Survey D S d w) (P : Plans) (list : List Row) (n : ℕ) (words : List ℕ) (x : Fault)
    → ((design : D) → SoundStanding (d.tree design)) → start_refusal (P list n) list ≡ None
    → (h : DrawnTo d w (start_after (P list n) list n words) x s) → eqb (numbered x).number 17 ≡ true → Ended d w s list n h.end
ended d w s P list n words x exact unrefused h is =
    let st = start_after (P list n) list n words in
    let before = draws h.drawn.count st in
    let k = kept h.drawn.count st (first_run (P list n) list n) (ap (λ o. begun o (first_run (P list n) list n)) unrefused) in
    let none = no_way before (numbered x) h.drawn.refused (eqb-true (numbered x).number 17 is) in
    let same : h.end ≡ before = h.drawn.leaves ∙ no_throw (ways_now before.run) before none in
    let run_is = ap (λ (y : State). y.run) same ∙ k.1 in
    let means = subst (λ o. Means d w s (record { words = h.end.words; run = o })) run_is h.means in
    record {
      tree = k.0;
      ends = record {
        stands = record { waiting = h.end.words; means = means };
        ended = run_ended (plans d s) (d.tree s.design) s.weights s.running _ means.run (exact s.design) (sym (ap ways_now k.1) ∙ none);
      };
      run_is = run_is;
    }
