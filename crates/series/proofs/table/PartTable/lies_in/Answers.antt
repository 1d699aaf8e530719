use Rattle.std.proofs.Common.{T, sym, ◌∙◌, subst, arith}
use Rattle.std.proofs.lemmas.Bool.{leb-false}
use Rattle.series.proofs.Tabled.{counted}
use Rattle.series.proofs.table.PartTable.lies_in.Goals as goal
use Rattle.series.proofs.table.PartTable.lies_in.Goals.{then-j-count, else-j-count}

pub returns-else-first_row-k : goal.returns-else-first_row-k
returns-else-first_row-k c =
    let t = c.args.self.now in (
      λ yes. absurd (subst T c.if-first_row-k.false yes),
      λ s. absurd (elim c.if-j-count.branch [
        | then-j-count w ↦ omega (arith, w.first_row.ensures, s.low, leb-false w.first_row.result c.args.k (sym w.value-is ∙ c.if-first_row-k.false))
        | else-j-count w ↦ omega (arith, w.if-j-count.false, c.count.ensures, counted t, t.chosen_all, s.place)
      ]),
    )
