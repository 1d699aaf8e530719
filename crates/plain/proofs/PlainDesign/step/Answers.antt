use Rattle.std.proofs.Common.{◌≡◌, true}
use Rattle.methods.proofs.Holdings.{holding_now}
use Rattle.plain.proofs.Runs.{ways_run}
use Rattle.plain.specs.Of.{runs, whole, held}
use Rattle.plain.proofs.PlainDesign.step.Goals as goal

pub settle-requires-clause-kept : goal.settle-requires-clause-kept
settle-requires-clause-kept g c =
    let s = c.args.self.now in
    let running : runs s.units ≡ true =
    ways_run (runs s.units) (whole s.units) (held s.units) (g.M.Method.tree s.method s.units) c.ways-ways.result c.ways-ways.ensures c.if-ways-eq0.false in
    holding_now (runs s.units) (g.met.M.Method.kept_once s.method s.units) s.holding running
