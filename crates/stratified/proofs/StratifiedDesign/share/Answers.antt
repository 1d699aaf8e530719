use Rattle.std.proofs.Common.{sym, subst}
use Rattle.design.specs.Design.{Shared}
use Rattle.design.proofs.Once.{shared_once}
use Rattle.layers.specs.Standings.{stands_if}
use Rattle.layers.proofs.Standings.{kept_now}
use Rattle.series.specs.Of.{standing}
use Rattle.stratified.proofs.StratifiedDesign.share.Goals as goal

pub returns : goal.returns
returns g c =
    let s = c.args.self.now in
    let st = standing g.D.Design s.strata in
    let k = c.args.k in
    let runs = c.if-not-self.false in
    subst (λ b. Shared (stands_if b st) k c.share.result) (sym runs)
    (kept_now s.running s.together runs (shared_once st k c.share.result) c.share.ensures)
