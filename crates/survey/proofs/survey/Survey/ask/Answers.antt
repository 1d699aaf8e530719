use Rattle.std.proofs.Common.{refl, sym, ap, subst, ◌∙◌}
use Rattle.plain_survey.specs.Calls.{start_refusal}
use Rattle.plain_survey.specs.Asking.{started, taken, shared, reported}
use Rattle.survey.specs.Means.{plans}
use Rattle.survey.specs.Conducting.{Obeys}
use Rattle.plain_survey.specs.declared.call.Answer.TheVariants.{Started, Taken, Shared, Reported, Stopped}
use Rattle.plain_survey.specs.Requests.{IsFor}
use Rattle.survey.proofs.Asking.{if_unrefused, fair_start, same_report}
use Rattle.survey.proofs.Estimating.{asked_estimates}
use Rattle.survey.proofs.Drawing.{all_exact}
use Rattle.survey.proofs.survey.Survey.ask.Goals as goal

pub returns-in-Start : goal.returns-in-Start
returns-in-Start g c =
    let s = c.args.self.now in
    let list = c.in-Start.list.now in
    let n = c.in-Start.n in
    let p = plans g.D.Design s list n in
    subst (λ call. Obeys g.D.Design g.S.Source g.L.Ledger call (Started c.start.result) s c.args.ledger.now c.start.new.self c.args.ledger.now) (sym c.in-Start.is)
    (record {
      settings = c.start.ensures.settings;
      does = λ st m. record {
        answers = ap started c.start.ensures.answer;
        means = record { waiting = c.start.ensures.after.means.waiting ∙ m.waiting; run = c.start.ensures.after.means.run };
        leaves = refl;
        laws = record {
          exact = c.start.ensures.after.exact;
          fair = λ none. fair_start (plans g.D.Design s) list n
              (if_unrefused (start_refusal p list) tt c.start.result _ c.start.ensures.answer c.start.ensures.fair none);
          estimates = tt;
        };
      };
    })

pub returns-in-Taken : goal.returns-in-Taken
returns-in-Taken g c =
    let s = c.args.self.now in
    subst (λ call. Obeys g.D.Design g.S.Source g.L.Ledger call (Taken c.taken.result) s c.args.ledger.now s c.args.ledger.now) (sym c.in-Taken.is)
    (record {
      settings = refl;
      does = λ st m. record {
        answers = ap taken (c.taken.ensures.answer st m);
        means = m;
        leaves = refl;
        laws = record {
          exact = c.taken.ensures.exact st m;
          fair = tt;
          estimates = tt;
        };
      };
    })

pub returns-in-Share : goal.returns-in-Share
returns-in-Share g c =
    let s = c.args.self.now in
    subst (λ call. Obeys g.D.Design g.S.Source g.L.Ledger call (Shared c.share.result) s c.args.ledger.now s c.args.ledger.now) (sym c.in-Share.is)
    (record {
      settings = refl;
      does = λ st m. record {
        answers = ap shared (c.share.ensures.answer st m);
        means = m;
        leaves = refl;
        laws = record {
          exact = c.share.ensures.exact st m;
          fair = tt;
          estimates = tt;
        };
      };
    })

pub returns-in-Report : goal.returns-in-Report
returns-in-Report g c =
    let s = c.args.self.now in
    subst (λ call. Obeys g.D.Design g.S.Source g.L.Ledger call (Reported c.report_by.result) s c.args.ledger.now s c.report_by.new.self) (sym c.in-Report.is)
    (record {
      settings = refl;
      does = λ st m. record {
        answers = ap reported (c.report_by.ensures.answer st m);
        means = m;
        leaves = c.report_by.ensures.totals st m;
        laws = record {
          exact = all_exact g.D.Design g.S.Source s g.met.D.Design.exact st m;
          fair = tt;
          estimates = λ scale taken e.
              asked_estimates (g.L.Ledger.requested c.in-Report.request) (plans g.D.Design s) (g.D.Design.tree s.design) s.weights s.running st.run (g.L.Ledger.tallies c.args.ledger.now) scale taken
              (g.met.D.Design.sound s.design) m.run
              (subst (λ k. IsFor k (g.L.Ledger.requested c.in-Report.request)) (sym (g.met.L.Ledger.counted c.args.ledger.now)) (g.met.L.Ledger.fits c.in-Report.request))
              (same_report _ _ e);
        };
      };
    })

pub returns-in-Stop : goal.returns-in-Stop
returns-in-Stop g c =
    let s = c.args.self.now in
    subst (λ call. Obeys g.D.Design g.S.Source g.L.Ledger call Stopped s c.args.ledger.now c.stop.new.self c.args.ledger.now) (sym c.in-Stop.is)
    (record {
      settings = c.stop.ensures.settings;
      does = λ st m. record {
        answers = refl;
        means = record { waiting = c.stop.ensures.after.means.waiting ∙ m.waiting; run = c.stop.ensures.after.means.run };
        leaves = refl;
        laws = record {
          exact = tt;
          fair = tt;
          estimates = tt;
        };
      };
    })
