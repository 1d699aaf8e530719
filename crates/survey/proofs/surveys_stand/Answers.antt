use Rattle.survey.proofs.SomeState.{all_mean_some}
use Rattle.survey.proofs.surveys_stand.Goals as goal

pub returns : goal.returns
returns g c = all_mean_some g.D.Design g.S.Source
