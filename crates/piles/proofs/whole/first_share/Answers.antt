use Rattle.piles.proofs.Begun.{first_prescribed}
use Rattle.piles.proofs.whole.first_share.Goals as goal

pub returns : goal.returns
returns g c =
    let now = c.in_ok-begin.ensures in
    first_prescribed c.args.list.now _ _ _ c.args.k c.share.result (g.met.D.Design.sound c.args.design.now c.args.list.now c.args.n) now.begun c.share.ensures
