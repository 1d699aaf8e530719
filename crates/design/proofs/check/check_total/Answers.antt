use Rattle.design.proofs.Firsts.{answers_at}
use Rattle.design.proofs.Checks.{passes_here}
use Rattle.design.proofs.check.check_total.Goals as goal

pub returns-then-row-sum : goal.returns-then-row-sum
returns-then-row-sum c =
    answers_at 5 _ _ _ _ (passes_here c.args.list.now c.loop-i.i c.loop-i.sum c.loop-i.invariant c.if-row-sum.true c.loop-i-test.true)
    c.at.ensures
