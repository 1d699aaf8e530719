use Rattle.std.proofs.Common.{◌≡◌, ◌+◌, ◌-◌, take, drop, sym, ap, arith}
use Rattle.std.proofs.lemmas.List.{get_or_past}
use Rattle.parts.specs.Running.{first_row_of}
use Rattle.series.specs.Tables.{tables}
use Rattle.series.proofs.Tabled.{counted}
use Rattle.series.proofs.table.PartTable.part.Goals as goal

pub rows_of-requires : goal.rows_of-requires
rows_of-requires c = omega (arith, c.if-j-count.true, c.count.ensures, counted c.args.self.now)

pub returns-else-j-count : goal.returns-else-j-count
returns-else-j-count c =
    let t = c.args.self.now in
    let past : first_row_of (tables t) (c.args.j + 1) ≡ 0 =
    get_or_past (t.bounds) (c.args.j + 1) 0 (omega (arith, c.if-j-count.false, c.count.ensures, counted t, t.chosen_all)) in
    let none : first_row_of (tables t) (c.args.j + 1) - first_row_of (tables t) c.args.j ≡ 0 = omega (arith, past) in
    sym (ap (λ n. take n (drop (first_row_of (tables t) c.args.j) (t.rows))) none)
