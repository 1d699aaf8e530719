use Rattle.survey.proofs.Running.{share_when}
use Rattle.survey.specs.Means.{plans}
use Rattle.survey.proofs.Drawing.{all_exact}
use Rattle.survey.proofs.survey.Survey.share.Goals as goal

pub returns-clause-answer : goal.returns-clause-answer
returns-clause-answer g c st m =
    let s = c.args.self.now in
    share_when (plans g.D.Design s) (g.D.Design.tree s.design) s.weights s.running st.run c.args.k c.share.result c.if-not-self.false m.run
    (g.met.D.Design.exact s.design) c.share.ensures

pub returns-then-not-self-clause-exact : goal.returns-then-not-self-clause-exact
returns-then-not-self-clause-exact g c = all_exact g.D.Design g.S.Source c.args.self.now g.met.D.Design.exact

pub returns-clause-exact : goal.returns-clause-exact
returns-clause-exact g c = all_exact g.D.Design g.S.Source c.args.self.now g.met.D.Design.exact
