use Rattle.std.proofs.Common.{◌≡◌, refl, true, false, Err, Some, sym, ap, subst, ◌∙◌}
use Rattle.std.proofs.lemmas.Result.{err_from_is_err_and}
use Rattle.design.specs.Faults.{Answers, numbered, told}
use Rattle.design.proofs.Firsts.{refused_by}
use Rattle.plain_survey.specs.Calls.{answer, begun, start_refusal, first_run}
use Rattle.plain_survey.specs.Laws.{ExactShares}
use Rattle.plain_survey.proofs.Starts.{starts_fair}
use Rattle.survey.specs.Runs.{RunMeans}
use Rattle.survey.specs.Means.{plans}
use Rattle.survey.proofs.Drawing.{run_exact}
use Rattle.survey.proofs.Starting.{judged, first_runs}
use Rattle.survey.proofs.survey.Survey.start.Goals as goal

pub returns-in_err-set_for-clause-answer : goal.returns-in_err-set_for-clause-answer
returns-in_err-set_for-clause-answer g c =
    let p = plans g.D.Design c.args.self.now c.args.list.now c.args.n in
    let f = c.in_err-set_for.field-0.0 in
    let j = judged g.D.Design c.begin.new.self (plans g.D.Design c.args.self.now c.args.list.now c.args.n) c.args.list.now c.set_for.new.self c.set_for.result
    c.in_ok-begin.ensures.begun (g.met.D.Design.sound c.args.self.now.design c.args.list.now c.args.n) c.set_for.ensures.answers in
    let refused : start_refusal p c.args.list.now ≡ Some (numbered f) =
    refused_by (start_refusal p c.args.list.now) _ f (subst (Answers (start_refusal p c.args.list.now) _) c.in_err-set_for.was j.answers) in
    let same : told c.from_residual-in_err-set_for.result ≡ Err (numbered f) =
    (let e = err_from_is_err_and c.from_residual-in_err-set_for.result c.from_residual-in_err-set_for.ensures.1 in ap told e.1 ∙ ap (λ x. Err (numbered x)) e.2) in
    same ∙ ap (λ o. answer o tt) (sym refused)

pub returns-in_err-set_for-clause-after : goal.returns-in_err-set_for-clause-after
returns-in_err-set_for-clause-after g c =
    let p = plans g.D.Design c.args.self.now c.args.list.now c.args.n in
    let f = c.in_err-set_for.field-0.0 in
    let j = judged g.D.Design c.begin.new.self (plans g.D.Design c.args.self.now c.args.list.now c.args.n) c.args.list.now c.set_for.new.self c.set_for.result
    c.in_ok-begin.ensures.begun (g.met.D.Design.sound c.args.self.now.design c.args.list.now c.args.n) c.set_for.ensures.answers in
    let refused : start_refusal p c.args.list.now ≡ Some (numbered f) =
    refused_by (start_refusal p c.args.list.now) _ f (subst (Answers (start_refusal p c.args.list.now) _) c.in_err-set_for.was j.answers) in
    let ended = ap (λ o. begun o (first_run p c.args.list.now c.args.n)) (sym refused) in
    record {
      means = record { waiting = refl; run = subst (RunMeans (g.D.Design.plan c.begin.new.self) (g.D.Design.tree c.begin.new.self) c.set_for.new.self false) ended tt };
      exact = subst (ExactShares (plans g.D.Design c.args.self.now)) ended tt;
    }

pub returns-clause-answer : goal.returns-clause-answer
returns-clause-answer g c =
    let P = plans g.D.Design c.args.self.now in
    let list = c.args.list.now in
    let n = c.args.n in
    let new = c.begin.new.self in
    let runs = first_runs g.D.Design new (P list n) list n c.set_for.new.self c.set_for.result c.in_ok-set_for.was
    c.in_ok-begin.ensures.begun (g.met.D.Design.sound c.args.self.now.design list n) c.set_for.ensures.answers in
    ap (λ o. answer o tt) (sym runs.accepted)

pub returns-clause-after : goal.returns-clause-after
returns-clause-after g c =
    let P = plans g.D.Design c.args.self.now in
    let list = c.args.list.now in
    let n = c.args.n in
    let new = c.begin.new.self in
    let runs = first_runs g.D.Design new (P list n) list n c.set_for.new.self c.set_for.result c.in_ok-set_for.was
    c.in_ok-begin.ensures.begun (g.met.D.Design.sound c.args.self.now.design list n) c.set_for.ensures.answers in
    let run = begun (start_refusal (P list n) list) (first_run (P list n) list n) in
    let means : RunMeans P (g.D.Design.tree new) c.set_for.new.self true run =
    subst (λ o. RunMeans P (g.D.Design.tree new) c.set_for.new.self true (begun o (first_run (P list n) list n))) (sym runs.accepted) runs in
    record {
      means = record { waiting = refl; run = subst (λ Q. RunMeans Q (g.D.Design.tree new) c.set_for.new.self true run) (sym c.begin.ensures.settings) means };
      exact = run_exact P (g.D.Design.tree new) c.set_for.new.self true run means (g.met.D.Design.exact new);
    }

pub returns-clause-fair : goal.returns-clause-fair
returns-clause-fair g c =
    let P = plans g.D.Design c.args.self.now in
    let list = c.args.list.now in
    let n = c.args.n in
    let new = c.begin.new.self in
    let runs = first_runs g.D.Design new (P list n) list n c.set_for.new.self c.set_for.result c.in_ok-set_for.was
    c.in_ok-begin.ensures.begun (g.met.D.Design.sound c.args.self.now.design list n) c.set_for.ensures.answers in
    starts_fair list (P list n) (g.met.D.Design.sound c.args.self.now.design list n) runs.accepted

pub invariant_of-self-2 : goal.invariant_of-self-2
invariant_of-self-2 g c =
    let P = plans g.D.Design c.args.self.now in
    let list = c.args.list.now in
    let n = c.args.n in
    let new = c.begin.new.self in
    let runs = first_runs g.D.Design new (P list n) list n c.set_for.new.self c.set_for.result c.in_ok-set_for.was
    c.in_ok-begin.ensures.begun (g.met.D.Design.sound c.args.self.now.design list n) c.set_for.ensures.answers in
    record {
      meant = ∣ record {
        run = Some (first_run (P list n) list n);
        means = subst (λ Q. RunMeans Q (g.D.Design.tree new) c.set_for.new.self true (Some (first_run (P list n) list n))) (sym c.begin.ensures.settings) runs;
      } ∣₁;
    }
