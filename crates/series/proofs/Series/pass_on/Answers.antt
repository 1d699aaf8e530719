use Rattle.std.proofs.Common.{◌+◌, arith}
use Rattle.parts.specs.Running.{run_from, so_far}
use Rattle.parts.proofs.Tables.{with_taken}
use Rattle.series.specs.Of.{IsUnderway, tables_of, standing}
use Rattle.series.proofs.Moves.{passing, moved_trans, same_taken}
use Rattle.series.proofs.Series.pass_on.Goals as goal

pub note_taken-requires : goal.note_taken-requires
note_taken-requires g c =
    let t = c.args.self.now.table in
    record {
      forward = c.rows_of-rows.ensures.forward;
      within = omega (arith, c.rows_of-rows.ensures.within, t.taken_all);
      few = omega (arith, t.taken_all, t.rows_few);
    }

pub returns : goal.returns
returns g c =
    let s = c.args.self.now in
    let t = s.table in
    let v = tables_of s in
    let x = c.enter.new.self in
    let B = g.D.Design.plan s.below in
    let st = g.D.Design.tree s.below in
    record {
      forward = omega (arith, c.enter.ensures.forward);
      same = same_taken v (c.note_taken.new.flags) (tables_of x) c.enter.ensures.same;
      settings = c.enter.ensures.settings;
      passed = λ u over.
          let n = passing B v (c.note_taken.new.flags) c.rows_of-rows.result.start c.rows_of-rows.result.end st u
          (omega (arith, c.requires, t.chosen_all)) c.rows_of-rows.ensures.start c.rows_of-rows.ensures.end over c.note_taken.ensures.noted in
          moved_trans c.enter.result (IsUnderway g.D.Design x) (standing g.D.Design x) (run_from B v (v.stage + 1) (so_far (with_taken v (c.note_taken.new.flags)))) (standing g.D.Design s)
          (c.enter.ensures.entered (record { loaded = n.loaded; none = n.none })) n.stands;
    }
