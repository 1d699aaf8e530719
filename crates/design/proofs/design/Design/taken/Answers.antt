use Rattle.design.proofs.Calls.{taken_by_share}
use Rattle.design.proofs.design.Design.taken.Goals as goal

pub returns : goal.returns
returns g c =
    taken_by_share (g.Self.Design.tree c.args.self.now) c.args.k (c.in_ok-numerator.numerator, c.in_ok-numerator.denominator)
    (g.met.Self.Design.exact c.args.self.now)
    c.in_ok-numerator.ensures
