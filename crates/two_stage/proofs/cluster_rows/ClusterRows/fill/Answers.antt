use Rattle.std.proofs.Common.{◌+◌, ◌-◌, ◌<◌, List, ◌∷◌, [], ◌++◌, length, sym, ap, ◌∙◌, ap₂, arith}
use Rattle.std.proofs.lemmas.Grind.{common_steps}
use Rattle.design.specs.Lists.{total}
use Rattle.design.specs.declared.row.Row.{Row}
use Rattle.parts.specs.Running.{first_row_of}
use Rattle.parts.proofs.Seats.{rows_of}
use Rattle.layers.specs.TwoStage.{row_for}
use Rattle.series.specs.Tables.{tables}
use Rattle.series.proofs.Tabled.{rising, counted, bounded}
use Rattle.two_stage.proofs.Sizes.{total_part, heads_more}
use Rattle.two_stage.proofs.cluster_rows.ClusterRows.fill.Goals as goal

pub row_of-requires-clause-some : goal.row_of-requires-clause-some
row_of-requires-clause-some c =
    let t = c.args.table.now in
    let b = bounded t c.loop-j.j (omega (arith, c.loop-j-test.true, c.count-j-end.ensures, counted t)) in
    let place : c.loop-j.j + 1 < length (tables t).bounds = omega (arith, c.loop-j-test.true, c.count-j-end.ensures, counted t, t.chosen_all) in
    omega (arith, ap length c.part.ensures, rows_of (tables t) (rising t) c.loop-j.j place, b.0)

pub row_of-requires-clause-small : goal.row_of-requires-clause-small
row_of-requires-clause-small c =
    let t = c.args.table.now in
    let v = tables t in
    let j = c.loop-j.j in
    let b = bounded t j (omega (arith, c.loop-j-test.true, c.count-j-end.ensures, counted t)) in
    omega (
      arith,
      ap total c.part.ensures,
      total_part v.rows (first_row_of v j) (first_row_of v (j + 1) - first_row_of v j) (omega (arith, b.0, b.1)),
      c.requires.small,
    )

pub loop-j-preserved : goal.loop-j-preserved
loop-j-preserved c =
    let t = c.args.table.now in
    let j = c.loop-j.j in
    let place : j + 1 < length (tables t).bounds = omega (arith, c.loop-j-test.true, c.count-j-end.ensures, counted t, t.chosen_all) in
    c.push.ensures.appended (grind (arith, common_steps))
    ∙ ap₂ (λ (xs : List Row) (r : Row). xs ++ r ∷ []) c.loop-j.invariant (c.row_of.ensures ∙ ap row_for c.part.ensures)
    ∙ sym (heads_more (tables t) (rising t) j place)
