use Rattle.std.proofs.Common.{ℕ, ap}
use Rattle.survey.specs.Means.{kind_of, plans, tally_of}
use Rattle.plain_survey.specs.Reports.{reported}
use Rattle.response.proofs.Values.{never_refused, one_value}
use Rattle.response.proofs.Tallies.{report_answered, report_left}
use Rattle.response.proofs.reporting.tally.Goals as goal

pub returns-in_err-scale : goal.returns-in_err-scale
returns-in_err-scale g c r ends many =
    let kind = kind_of g.T.Total in
    let P = plans g.D.Design c.args.survey.now in
    let a = report_answered kind P r c.args.readings.now c.report.result ends.ended many c.requires (c.report.ensures.answer _ ends.stands.means) in
    never_refused c.report.result (reported P r) c.in_err-scale.field-0.0 a c.in_err-scale.was

pub returns : goal.returns
returns g c r ends many =
    let kind = kind_of g.T.Total in
    let P = plans g.D.Design c.args.survey.now in
    let readings = c.args.readings.now in
    let a = report_answered kind P r readings c.report.result ends.ended many c.requires (c.report.ensures.answer _ ends.stands.means) in
    let is = one_value c.report.result (c.in_ok-scale.scale, c.in_ok-scale.field-0-1) (reported P r) c.in_ok-scale.was a in
    record {
      scale_is = ap (λ (x : ℕ × ℕ). x.0) is;
      entries_are = ap (λ t. t.entries) (report_left kind P r readings (tally_of g.T.Total c.args.total.now) (tally_of g.T.Total c.report.new.total) ends.ended many c.requires (c.report.ensures.total _ ends.stands.means));
    }
