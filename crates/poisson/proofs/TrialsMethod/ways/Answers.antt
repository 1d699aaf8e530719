use Rattle.std.proofs.Common.{◌<◌, ◌≤◌, sym, ◌∙◌, subst}
use Rattle.methods.proofs.Poissons.{ways_open, ways_done}
use Rattle.plain.specs.Of.{whole, held}
use Rattle.poisson.proofs.TrialsMethod.ways.Goals as goal

pub returns-then-self-units : goal.returns-then-self-units
returns-then-self-units c =
    let u = c.args.units.now in
    let called = c.args.self.now.called in
    c.total.ensures ∙ sym (ways_open (whole u) (held u) called (subst (λ n. called < n) c.units.ensures c.if-self-units.true))

pub returns-else-self-units : goal.returns-else-self-units
returns-else-self-units c =
    let u = c.args.units.now in
    let called = c.args.self.now.called in
    sym (ways_done (whole u) (held u) called (subst (λ n. n ≤ called) c.units.ensures c.if-self-units.false))
