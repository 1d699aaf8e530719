use Rattle.std.proofs.Common.{◌∙◌}
use Rattle.methods.proofs.Systematics.{ways_first}
use Rattle.plain.specs.Of.{whole, held}
use Rattle.systematic.proofs.OneThrowMethod.ways.Goals as goal

pub returns-else-self : goal.returns-else-self
returns-else-self c =
    let u = c.args.units.now in
    c.total.ensures ∙ ways_first (whole u) (held u) c.args.self.now.thrown c.if-self.false
