use Rattle.std.proofs.Common.{ltb, length, sym, ap, ◌∙◌, arith}
use Rattle.series.proofs.Tabled.{counted, shifted}
use Rattle.series.proofs.table.PartTable.has_part.Goals as goal

pub returns : goal.returns
returns c =
    let t = c.args.self.now in
    ap (λ n. ltb t.stage n) (c.count.ensures ∙ sym (counted t)) ∙ shifted t.stage _ (length t.bounds) (omega (arith, t.chosen_all))
