use Rattle.std.proofs.Common.{◌≡◌, ap, sym, subst, ◌∙◌, ◌++◌, arith}
use Rattle.plain_survey.proofs.Requests.{change_first, change_second}
use Rattle.plain_survey.specs.Reports.{report_tally}
use Rattle.plain_survey.specs.Requests.{kind_in, either_requests, request_tallies}
use Rattle.survey.specs.Means.{plans}
use Rattle.survey.proofs.ledger.BothLedgerEither.report_by.Goals as goal

pub returns-in-First-clause-totals : goal.returns-in-First-clause-totals
returns-in-First-clause-totals g c st m =
    let a = g.A.Ledger in
    let b = g.B.Ledger in
    let xs = a.tallies c.args.self.now.first in
    let ys = b.tallies c.args.self.now.second in
    let q = a.requested c.in-First.request in
    let P = plans g.D.Design c.args.survey.now in
    let there = (g.met.A.Ledger.fits c.in-First.request).there in
    subst (λ x. a.tallies c.report_by.new.self ++ ys ≡ request_tallies (either_requests a.requested a.count b.requested x) P st.run (xs ++ ys)) (sym c.in-First.is)
    (ap (λ ts. ts ++ ys) (c.report_by.ensures.totals st m)
    ∙ sym (change_first q.into (report_tally (kind_in q) P st.run q.readings) xs ys (omega (arith, there, g.met.A.Ledger.counted c.args.self.now.first))))

pub returns-in-Second-clause-totals : goal.returns-in-Second-clause-totals
returns-in-Second-clause-totals g c st m =
    let a = g.A.Ledger in
    let b = g.B.Ledger in
    let xs = a.tallies c.args.self.now.first in
    let ys = b.tallies c.args.self.now.second in
    let q = b.requested c.in-Second.request in
    let P = plans g.D.Design c.args.survey.now in
    subst (λ x. xs ++ b.tallies c.report_by-in-Second.new.self ≡ request_tallies (either_requests a.requested a.count b.requested x) P st.run (xs ++ ys)) (sym c.in-Second.is)
    (ap (λ ts. xs ++ ts) (c.report_by-in-Second.ensures.totals st m)
    ∙ sym (change_second q.into a.count (report_tally (kind_in q) P st.run q.readings) xs ys (g.met.A.Ledger.counted c.args.self.now.first)))
