use Rattle.std.proofs.Common.{rules, not, ◌∙◌}
use borrow.Author.Tests.{tests}
use Rattle.std.proofs.lemmas.Iterator.{YieldsList-from_slice}
use Rattle.std.proofs.lemmas.Iterator.Search.{position_from_yields_List}
use Rattle.plain_survey.proofs.Reports.{first_unlawful}
use Rattle.survey.specs.Means.{kind_of}
use Rattle.survey.proofs.adding.first_unlawful.Goals as goal

pub returns : goal.returns
returns g c =
    position_from_yields_List (λ x. not (g.T.Total.is_lawful x)) _ _ _ c.position.ensures.ran (YieldsList-from_slice c.args.readings.now cc) (λ x b q k. search (rules, tests))
    ∙ first_unlawful (kind_of g.T.Total) c.args.readings.now
