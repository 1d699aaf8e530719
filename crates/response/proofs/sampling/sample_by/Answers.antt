use Rattle.std.proofs.Common.{subst}
use Rattle.survey.specs.Means.{words}
use Rattle.response.specs.Failures.{Prints}
use Rattle.response.specs.Responses.{PrintsWith}
use Rattle.response.proofs.sampling.sample_by.Goals as goal

pub returns : goal.returns
returns g c =
    let f = c.args.frame.now in
    let new = c.in_ok-survey.ensures in
    subst (λ ws. Prints (PrintsWith (g.D.Design.plan c.args.design) ws f) c.sample.result) new.means.waiting
    (subst (λ P. Prints (PrintsWith P (words g.S.Source c.in_ok-survey.survey) f) c.sample.result) new.settings c.sample.ensures)
