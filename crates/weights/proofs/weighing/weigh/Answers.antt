use Rattle.std.proofs.Common.{◌+◌, ◌≤◌, ap, arith}
use Rattle.std.proofs.lemmas.List.{length_push}
use Rattle.weights.proofs.Weighed.{heavy_here, none_heavy_more, weight_of_unit, weighed_more}
use Rattle.weights.proofs.weighing.weigh.Goals as goal

pub returns-then-weight-from-clause-answers : goal.returns-then-weight-from-clause-answers
returns-then-weight-from-clause-answers g c list num run h =
    let l = c.loop-k in
    let is = weight_of_unit _ c.args.units list num run l.k c.in_ok-share.field-0 c.args.scale _ h c.loop-k-test.true c.in_ok-share.ensures c.weight_of-weight.ensures in
    heavy_here c.args.units l.k num run.denominator c.args.scale l.weights _ _ c.at.result (l.invariant.2 list num run h) c.loop-k-test.true is
    (omega (arith, c.from.ensures, c.if-weight-from.true)) c.at.ensures

pub loop-k-preserved : goal.loop-k-preserved
loop-k-preserved g c =
    let l = c.loop-k in
    let w = c.weight_of-weight.result in
    let small : c.weight_of-weight.result ≤ 1000000000 = omega (arith, c.from.ensures, c.if-weight-from.false) in
    rw (c.push.ensures.appended (omega arith)) (
      rw (length_push l.weights w) (ap (λ i. i + 1) l.invariant.0),
      none_heavy_more l.weights w l.invariant.1 small,
      λ list num run h.
          weighed_more l.k num run.denominator c.args.scale l.weights w (l.invariant.2 list num run h)
          (weight_of_unit _ c.args.units list num run l.k c.in_ok-share.field-0 c.args.scale _ h c.loop-k-test.true c.in_ok-share.ensures c.weight_of-weight.ensures)
          small,
    )
