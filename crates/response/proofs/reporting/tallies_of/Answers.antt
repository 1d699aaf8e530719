use Rattle.std.proofs.Common.{IsTrue, ◌∙◌}
use Rattle.std.proofs.lemmas.List.Elements.{All-same}
use Rattle.totals.specs.Kinds.{cell_lawful, money_lawful}
use Rattle.totals.specs.declared.table.Cell.{Cell}
use Rattle.response.specs.Responses.{amounts_of, cells_of}
use Rattle.response.proofs.Frames.{amounts_lawful, cells_lawful}
use Rattle.response.proofs.reporting.tallies_of.Goals as goal

pub tally-requires : goal.tally-requires
tally-requires g c =
    let f = c.args.frame.now in
    All-same (λ x. IsTrue (money_lawful x)) c.deref.result.now (amounts_of f) (c.deref.ensures.value ∙ c.in_ok-amounts.ensures) (amounts_lawful f c.requires)

pub tally-requires-2 : goal.tally-requires-2
tally-requires-2 g c =
    let f = c.args.frame.now in
    All-same (λ (x : Cell). IsTrue (cell_lawful x.at)) c.deref-2.result.now (cells_of f) (c.deref-2.ensures.value ∙ c.in_ok-cells.ensures) (cells_lawful f c.requires)
