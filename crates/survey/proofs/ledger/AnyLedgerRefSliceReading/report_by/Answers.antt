use Rattle.std.proofs.Common.{[], ◌∷◌, ap, ◌∙◌}
use Rattle.plain_survey.proofs.Requests.{answer_as, tally_as}
use Rattle.survey.specs.Means.{kind_of, plans, tally_of}
use Rattle.survey.proofs.ledger.AnyLedgerRefSliceReading.report_by.Goals as goal

pub returns-clause-answer : goal.returns-clause-answer
returns-clause-answer g c st m =
    c.report.ensures.answer st m ∙ answer_as 0 (kind_of g.T.Total) (plans g.D.Design c.args.survey.now) st.run c.args.request.now.now

pub returns-clause-totals : goal.returns-clause-totals
returns-clause-totals g c st m =
    ap (λ t. t ∷ [])
    (c.report.ensures.total st m ∙ tally_as 0 (kind_of g.T.Total) (plans g.D.Design c.args.survey.now) st.run c.args.request.now.now (tally_of g.T.Total c.args.self.now))
