use Rattle.std.proofs.Common.{sym, ◌∙◌}
use Rattle.series.specs.Of.{tables_of}
use Rattle.series.proofs.Moves.{enter_ready}
use Rattle.series.proofs.Series.enter_first.Goals as goal

pub returns-then-is_chosen-clause-entered : goal.returns-then-is_chosen-clause-entered
returns-then-is_chosen-clause-entered g c h none =
    let s = c.args.self.now in
    let t = s.table in
    enter_ready (g.D.Design.plan s.below) (g.met.D.Design.sound s.below) (tables_of s) (g.D.Design.tree s.below) h t.taken_all t.chosen_all none
    (sym c.is_chosen.ensures ∙ c.if-is_chosen.true)
