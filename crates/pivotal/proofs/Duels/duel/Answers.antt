use Rattle.std.proofs.Common.{◌≤◌, subst}
use Rattle.methods.proofs.PivotalCalls.{ways_end}
use Rattle.plain.specs.Of.{whole, held}
use Rattle.pivotal.proofs.Duels.duel.Goals as goal

pub returns-then-self-units : goal.returns-then-self-units
returns-then-self-units c =
    let m = c.args.self.now in
    let u = c.args.units.now in
    ways_end (whole u) (held u) m.called m.pending (subst (λ n. n ≤ m.called) c.units.ensures c.if-self-units.true)
