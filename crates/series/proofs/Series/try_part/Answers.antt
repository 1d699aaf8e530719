use Rattle.std.proofs.Common.{ℕ, ◌+◌, ◌<◌, List, length, subst, arith}
use Rattle.design.specs.Design.{Began}
use Rattle.design.specs.declared.row.Row.{Row}
use Rattle.parts.specs.Running.{part_at, sample_of}
use Rattle.parts.specs.Series.{plan_for}
use Rattle.series.specs.Tables.{tables}
use Rattle.series.proofs.Tabled.{rising}
use Rattle.series.proofs.Tries.{begun_ok, tried_by}
use Rattle.series.proofs.Series.try_part.Goals as goal

pub note_shares-requires-clause-within : goal.note_shares-requires-clause-within
note_shares-requires-clause-within g c =
    let t = c.args.self.now.table in
    omega (arith, c.rows_of-rows.ensures.within, t.shares_all)

pub returns-clause-tried : goal.returns-clause-tried
returns-clause-tried g c =
    let s = c.args.self.now in
    let t = s.table in
    let j = c.args.j in
    let B = g.D.Design.plan s.below in
    let st = g.D.Design.tree c.begin.new.self in
    let place : j + 1 < length (tables t).bounds = omega (arith, c.requires, t.chosen_all) in
    let ok = begun_ok c.begin.result (plan_for B (part_at (tables t) j)) st c.in_ok-map_err.ensures.variant
    (subst (λ (list : List Row). Began (B list (sample_of (tables t) j)) c.begin.result st) c.part.ensures
    (subst (λ (n : ℕ). Began (B c.part.result.now n) c.begin.result st) c.sample.ensures c.begin.ensures.begun)) in
    tried_by ok.0 tt B (g.met.D.Design.sound s.below) (tables t) (rising t) j c.rows_of-rows.result.start c.rows_of-rows.result.end
    c.note_shares.new.shares st place c.rows_of-rows.ensures.start c.rows_of-rows.ensures.end ok.1 c.note_shares.ensures.noted
