use Rattle.std.proofs.Common.{ap, length, arith, ◌<◌, ◌≤◌}
use Rattle.std.proofs.lemmas.Result.{IfErr-weaker, IfOk-weaker}
use Rattle.reader.specs.Cursors.{left}
use Rattle.reader.proofs.Takes.{all_taken, one_more, too_many}
use Rattle.reader.proofs.line.read_takes.Goals as goal
use Rattle.reader.proofs.line.read_takes.Goals.{then-loop-fields-test+else-not-is_done, else-loop-fields-test}

pub loop-fields-preserved : goal.loop-fields-preserved
loop-fields-preserved c = one_more c.loop-fields.invariant (omega arith) c.in_ok-natural.ensures.taken (c.push.ensures.appended (omega arith))

pub returns-clause-read : goal.returns-clause-read
returns-clause-read c = IfOk-weaker c.end.result _ _ (λ _ none. all_taken c.args.text.now c.loop-fields.invariant none) c.end.ensures.done

pub returns-clause-refused : goal.returns-clause-refused
returns-clause-refused c = IfErr-weaker c.end.result _ _ (λ _ more. too_many c.loop-fields.invariant (many more.0) more) c.end.ensures.surplus
  where
    many : 0 < length (left c.loop-fields.fields) → 64 ≤ length c.loop-fields.takes
    many some = elim c.loop-fields-test.branch [
      | then-loop-fields-test+else-not-is_done w ↦ absurd (omega (arith, ap length w.if-not-is_done.ensures))
      | else-loop-fields-test w ↦ omega arith
    ]
