use Rattle.std.proofs.Common.{rules, ◌≡◌, refl, length}
use Rattle.std.proofs.Math.ListN.{drop}
use Rattle.survey.specs.Conducting.{rules_of, with_totals}
use Rattle.survey.proofs.CallLists.{each_made, all_as}
use Rattle.survey.proofs.survey.Survey.conduct.Goals as goal

pub returns-clause-each : goal.returns-clause-each
returns-clause-each g c =
    let made = c.conduct_into.new.answers in
    let many : length c.deref_mut.result.now ≡ length c.args.calls.now = search rules in
    let end : c.resize.new.self.len ≡ length made = search rules in
    each_made g.D.Design g.S.Source g.L.Ledger c.args.calls.now c.deref_mut.result.now made (drop (length made) c.resize.new.self.items) c.resize.new.self.len
    c.args.self.now c.args.ledger.now c.conduct_into.new.self c.conduct_into.new.ledger many c.conduct_into.ensures.len end c.conduct_into.ensures.each

pub returns-clause-all : goal.returns-clause-all
returns-clause-all g c st m =
    let made = c.conduct_into.new.answers in
    let many : length c.deref_mut.result.now ≡ length c.args.calls.now = search rules in
    let end : c.resize.new.self.len ≡ length made = search rules in
    all_as g.D.Design g.S.Source g.L.Ledger c.args.calls.now _ c.args.self.now c.args.ledger.now c.conduct_into.new.self c.conduct_into.new.ledger
    (rules_of g.D.Design g.L.Ledger c.args.self.now) (with_totals g.L.Ledger st c.args.ledger.now)
    (each_made g.D.Design g.S.Source g.L.Ledger c.args.calls.now c.deref_mut.result.now made (drop (length made) c.resize.new.self.items) c.resize.new.self.len
    c.args.self.now c.args.ledger.now c.conduct_into.new.self c.conduct_into.new.ledger many c.conduct_into.ensures.len end c.conduct_into.ensures.each) refl refl m
