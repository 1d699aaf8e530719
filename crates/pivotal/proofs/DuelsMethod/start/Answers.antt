use Rattle.std.proofs.Common.{sym, subst}
use Rattle.methods.proofs.PivotalCalls.{held_begun}
use Rattle.methods.specs.PivotalRuns.{Held}
use Rattle.plain.specs.Of.{whole, held}
use Rattle.plain.proofs.Runs.{prepared}
use Rattle.pivotal.proofs.DuelsMethod.start.Goals as goal

pub call-requires : goal.call-requires
call-requires c =
    let u = c.args.units.now in
    subst (λ i. Held (whole u) (held u) i c.default.result.pending) (sym c.default.ensures.0)
    (subst (λ p. Held (whole u) (held u) 0 p) (sym c.default.ensures.1)
    (held_begun c.requires.list c.requires.n (whole u) (held u) (prepared u c.requires)))
