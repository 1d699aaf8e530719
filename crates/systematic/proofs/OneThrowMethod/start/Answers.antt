use Rattle.methods.proofs.Systematics.{held_begun}
use Rattle.plain.specs.Of.{whole, held}
use Rattle.plain.proofs.Runs.{prepared}
use Rattle.systematic.proofs.OneThrowMethod.start.Goals as goal

pub returns-clause-kept : goal.returns-clause-kept
returns-clause-kept c =
    let u = c.args._units.now in
    held_begun c.requires.list c.requires.n (whole u) (held u) (prepared u c.requires)
