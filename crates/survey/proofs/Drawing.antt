-- A draw: where the throw leads, and that shares are exact there.
use Rattle.std.proofs.Common.{◌≡◌, refl, ℕ, zero, suc, ◌<◌, Bool, true, false, inl, inr, Ok, Err, Result, sym, ap, subst, ◌∙◌, arith, length, ◌≤◌, Some, None, Option}
use Rattle.outcomes.specs.Trees.{Tree, finished, branching, Sample, Lawful, ways, subtree}
use Rattle.design.specs.Faults.{Refusal}
use Rattle.design.specs.Design.{Standing, in_run, Stepped, SoundStanding}
use Rattle.design.specs.Plans.{Plans}
use Rattle.design.specs.declared.fault.Fault.{Fault}
use Rattle.throws.specs.Words.{thrown, left}
use Rattle.throws.proofs.Throwing.{thrown_below}
use Rattle.weights.specs.declared.Weights.{Weights}
use Rattle.plain_survey.specs.States.{State, ways_now, run_after, PlainRun}
use Rattle.plain_survey.specs.Calls.{throw_now, draw_after}
use Rattle.plain_survey.specs.Laws.{run_at, ExactShares}
use Rattle.plain_survey.proofs.Shares.{exact_shares}
use Rattle.design.specs.declared.design.Design as Design
use Rattle.throws.specs.declared.source.Source as Source
use Rattle.survey.specs.declared.survey.Survey.{Survey}
use Rattle.survey.specs.Runs.{RunMeans}
use Rattle.survey.specs.Means.{AllExact, Means, plans, words}

-- shares are exact in every run that a survey means
pub run_exact : (P : Plans) (st : Standing) (w : Weights) (b : Bool) (run : Option PlainRun) → RunMeans P st w b run → SoundStanding st → ExactShares P run
run_exact P st w false None m sound = tt
run_exact P st w false (Some r) m sound = absurd m
run_exact P st w true None m sound = absurd m
run_exact P st w true (Some r) m sound = exact_shares P r (subst SoundStanding m.stands sound)

-- with no way there is no throw
pub no_throw : (m : ℕ) (st : State) → m ≡ 0 → record { words = left m st.words; run = run_after (thrown m st.words) st.run } ≡ st
no_throw zero st e = ap (λ s. record { words = st.words; run = s }) (go st.run)
  where
    go : (s : Option PlainRun) → run_after (thrown 0 st.words) s ≡ s
    go None = refl
    go (Some r) = refl
no_throw (suc m) st e = absurd (omega (arith, e))

-- a throw that is refused leads nowhere
pub refused_throw : (t : Result ℕ Refusal) (f : Refusal) (s : Option PlainRun) → t ≡ Err f → run_after t s ≡ s
refused_throw t f None e = refl
refused_throw t f (Some r) e = ap (λ x. run_after x (Some r)) e

-- a throw leads to its subtree
pub led : (P : Plans) (st after : Standing) (w : Weights) (b : Bool) (run : Option PlainRun) (t : Result ℕ Refusal) (d : ℕ) (result : Result (Unit {0}) Fault)
    → t ≡ Ok d → d < ways_now run → RunMeans P st w b run → Stepped st d result after → RunMeans P after w b (run_after t run)
led P st after w b None t d result e l m stepped = absurd (omega (arith, l))
led P st after w false (Some r) t d result e l m stepped = absurd m
led P st after w true (Some r) t d result e l m stepped =
    subst (λ x. RunMeans P after w true (run_after x (Some r))) (sym e)
    (record { accepted = m.accepted; stands = go result (subst (λ s. Stepped s d result after) m.stands stepped); weighed = m.weighed })
  where
    go : (x : Result (Unit {0}) Fault) → Stepped (in_run (run_at (P r.list r.n) r.list r.tree)) d x after → after ≡ in_run (run_at (P r.list r.n) r.list (subtree r.tree d))
    go (Ok u) h = h.1
    go (Err f) h = elim h.1 [ inl a ↦ absurd (omega (arith, l, a.0)) | inr a ↦ absurd (omega (arith, l, a.1)) ]

-- the run that a survey means after a throw of x, of m ways, and the step there
pub next_run : {D S : Type 0} (d : Design.Ghosts D) (w : Source.Ghosts S) (s : Survey D S d w) (after : Standing) (m x : ℕ) (result : Result (Unit {0}) Fault)
    → ((st : State) → Means d w s st → m ≡ ways_now st.run) → Ok x ≡ thrown m (words w s) → Stepped (d.tree s.design) x result after
    → (st : State) → Means d w s st → RunMeans (plans d s) after s.weights s.running (draw_after st).run
next_run d w s after m x result ways answer stepped st h =
    let leads : throw_now st ≡ Ok x = sym (answer ∙ ap (λ k. thrown k (words w s)) (ways st h) ∙ ap (λ ws. thrown (ways_now st.run) ws) h.waiting) in
    led (plans d s) (d.tree s.design) after s.weights s.running st.run (throw_now st) x result leads (thrown_below (ways_now st.run) st.words x leads) h.run stepped

pub all_exact : {D S : Type 0} (d : Design.Ghosts D) (w : Source.Ghosts S) (s : Survey D S d w) → ((design : D) → SoundStanding (d.tree design)) → AllExact d w s
all_exact d w s exact st m = run_exact (plans d s) (d.tree s.design) s.weights s.running st.run m.run (exact s.design)

-- no tree of a survey has more ways than a throw may have
pub few_ways : {D S : Type 0} (d : Design.Ghosts D) (w : Source.Ghosts S) (s : Survey D S d w) → ((design : D) → SoundStanding (d.tree design))
    → (st : State) → Means d w s st → ways_now st.run ≤ 10240000
few_ways d w s exact st m = go (plans d s) (d.tree s.design) s.weights s.running st.run m.run (exact s.design)
  where
    lawful : (units : ℕ) (t : Tree Sample) → Lawful units t → ways t ≤ 10240000
    lawful units (finished u) h = omega arith
    lawful units (branching m sub) h = h.1

    go : (P : Plans) (st : Standing) (w : Weights) (b : Bool) (run : Option PlainRun) → RunMeans P st w b run → SoundStanding st → ways_now run ≤ 10240000
    go P st w b None m sound = omega arith
    go P st w false (Some r) m sound = absurd m
    go P st w true (Some r) m sound = lawful (length r.list) r.tree (subst SoundStanding m.stands sound).lawful
