use Rattle.plain_survey.proofs.Shares.{always, found}
use Rattle.plain_survey.proofs.Averages.{each_entry_added}
use Rattle.plain_survey.proofs.plain_survey_stands.Goals as goal

pub returns : goal.returns
returns c = record { in_every_exactly = λ k t. (always k t, found k t); each_entry_added = each_entry_added }
