use Rattle.methods.proofs.Systematics.{throw_first, step_at}
use Rattle.plain.specs.Of.{whole, held}
use Rattle.systematic.proofs.OneThrowMethod.settle.Goals as goal

pub strike-requires-clause-below : goal.strike-requires-clause-below
strike-requires-clause-below c =
    let u = c.args.units.now in
    (throw_first (whole u) (held u) c.args.self.now.thrown c.args.d c.requires.below).1

pub returns-clause-tree : goal.returns-clause-tree
returns-clause-tree c =
    let m = c.args.self.now in
    let u = c.args.units.now in
    let after = c.strike.new.units in
    step_at (whole u) (held u) m.thrown (whole after) (held after) c.args.d c.strike.ensures.whole
    (throw_first (whole u) (held u) m.thrown c.args.d c.requires.below).0 c.requires.kept.0 c.strike.ensures.struck
