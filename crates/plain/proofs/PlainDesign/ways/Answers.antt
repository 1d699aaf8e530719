use Rattle.std.proofs.Common.{sym}
use Rattle.methods.proofs.Holdings.{holding_now}
use Rattle.plain.specs.Of.{runs}
use Rattle.plain.proofs.PlainDesign.ways.Goals as goal

pub ways-requires : goal.ways-requires
ways-requires g c =
    let s = c.args.self.now in
    holding_now (runs s.units) (g.met.M.Method.kept_once s.method s.units) s.holding (sym c.if-is_running.ensures)
