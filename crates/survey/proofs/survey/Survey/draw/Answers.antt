use Rattle.std.proofs.Common.{◌≡◌, Err, sym, ap, subst, ◌∙◌}
use mathlib.Core.Logic.{∥∥₁_map}
use Rattle.design.specs.Faults.{numbered}
use Rattle.throws.specs.Words.{thrown, left}
use Rattle.plain_survey.specs.States.{ways_now}
use Rattle.plain_survey.specs.Calls.{throw_now, draw_after}
use Rattle.survey.specs.Runs.{RunMeans}
use Rattle.survey.specs.Means.{ComesTo, plans, words}
use Rattle.survey.proofs.Drawing.{few_ways, run_exact, no_throw, refused_throw, next_run}
use Rattle.survey.proofs.SomeState.{all_mean_some}
use Rattle.survey.proofs.survey.Survey.draw.Goals as goal

pub returns-then-ways-eq0-clause-after : goal.returns-then-ways-eq0-clause-after
returns-then-ways-eq0-clause-after g c st m =
    let s = c.args.self.now in
    let none : ways_now st.run ≡ 0 = sym (c.ways-ways.ensures st m) ∙ c.if-ways-eq0.true in
    subst (ComesTo g.D.Design g.S.Source s s) (sym (no_throw (ways_now st.run) st none))
    (record {
      means = m;
      exact = run_exact (plans g.D.Design s) (g.D.Design.tree s.design) s.weights s.running st.run m.run (g.met.D.Design.exact s.design);
    })

pub returns-in_err-d-clause-after : goal.returns-in_err-d-clause-after
returns-in_err-d-clause-after g c st m =
    let s = c.args.self.now in
    let ways = c.ways-ways.ensures st m in
    let dry : throw_now st ≡ Err (numbered c.in_err-d.field-0.0) =
    sym (c.in_err-d.ensures.answer ∙ ap (λ k. thrown k (words g.S.Source s)) ways ∙ ap (λ ws. thrown (ways_now st.run) ws) m.waiting) in
    let stays = refused_throw (throw_now st) (numbered c.in_err-d.field-0.0) st.run dry in
    let means = subst (RunMeans (plans g.D.Design s) (g.D.Design.tree s.design) s.weights s.running) (sym stays) m.run in
    record {
      means = record { waiting = c.throw.ensures.words ∙ ap (λ k. left k (words g.S.Source s)) ways ∙ ap (λ ws. left (ways_now st.run) ws) m.waiting; run = means };
      exact = run_exact (plans g.D.Design s) (g.D.Design.tree s.design) s.weights s.running (draw_after st).run means (g.met.D.Design.exact s.design);
    }

pub returns-clause-after : goal.returns-clause-after
returns-clause-after g c st m =
    let s = c.args.self.now in
    let new = c.step.new.self in
    let ways = c.ways-ways.ensures st m in
    let means = next_run g.D.Design g.S.Source s (g.D.Design.tree new) c.ways-ways.result c.in_ok-d.d c.step.result c.ways-ways.ensures c.in_ok-d.ensures.answer c.step.ensures.stepped st m in
    record {
      means = record { waiting = c.throw.ensures.words ∙ ap (λ k. left k (words g.S.Source s)) ways ∙ ap (λ ws. left (ways_now st.run) ws) m.waiting; run = subst (λ P. RunMeans P (g.D.Design.tree new) s.weights s.running (draw_after st).run) (sym c.step.ensures.settings) means };
      exact = run_exact (plans g.D.Design s) (g.D.Design.tree new) s.weights s.running (draw_after st).run means (g.met.D.Design.exact new);
    }

pub invariant_of-self-2 : goal.invariant_of-self-2
invariant_of-self-2 g c =
    let s = c.args.self.now in
    let new = c.step.new.self in
    record {
      meant = ∥∥₁_map (all_mean_some g.D.Design g.S.Source s) (λ k. record {
        run = (draw_after k.0).run;
        means = subst (λ P. RunMeans P (g.D.Design.tree new) s.weights s.running (draw_after k.0).run) (sym c.step.ensures.settings)
            (next_run g.D.Design g.S.Source s (g.D.Design.tree new) c.ways-ways.result c.in_ok-d.d c.step.result c.ways-ways.ensures c.in_ok-d.ensures.answer c.step.ensures.stepped k.0 k.1);
      });
    }

pub returns-then-ways-eq0-clause-few_ways : goal.returns-then-ways-eq0-clause-few_ways
returns-then-ways-eq0-clause-few_ways g c = few_ways g.D.Design g.S.Source c.args.self.now g.met.D.Design.exact

pub returns-in_err-d-clause-few_ways : goal.returns-in_err-d-clause-few_ways
returns-in_err-d-clause-few_ways g c = few_ways g.D.Design g.S.Source c.args.self.now g.met.D.Design.exact

pub returns-clause-few_ways : goal.returns-clause-few_ways
returns-clause-few_ways g c = few_ways g.D.Design g.S.Source c.args.self.now g.met.D.Design.exact
