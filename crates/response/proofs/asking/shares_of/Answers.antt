use Rattle.std.proofs.Common.{arith}
use Rattle.survey.specs.Means.{plans}
use Rattle.plain_survey.specs.Calls.{share_now}
use Rattle.response.proofs.InOrder.{one_share_more}
use Rattle.response.proofs.Questions.{share_answered}
use Rattle.response.proofs.Values.{never_refused, one_value}
use Rattle.response.proofs.asking.shares_of.Goals as goal

pub returns-in_err-share : goal.returns-in_err-share
returns-in_err-share g c r stands units =
    let P = plans g.D.Design c.args.survey.now in
    let a = share_answered P r c.loop-k.k c.share.result (omega arith) (c.share.ensures.answer _ stands.means) in
    never_refused c.share.result (share_now P r c.loop-k.k) c.in_err-share.field-0.0 a c.in_err-share.was

pub loop-k-preserved : goal.loop-k-preserved
loop-k-preserved g c r stands units =
    let P = plans g.D.Design c.args.survey.now in
    let a = share_answered P r c.loop-k.k c.share.result (omega arith) (c.share.ensures.answer _ stands.means) in
    let is = one_value c.share.result c.in_ok-share.field-0 (share_now P r c.loop-k.k) c.in_ok-share.was a in
    one_share_more (share_now P r) c.loop-k.k c.loop-k.shares.items c.push.new.self.items c.in_ok-share.field-0 (c.loop-k.invariant r stands units) is c.in_ok-push.ensures.items
