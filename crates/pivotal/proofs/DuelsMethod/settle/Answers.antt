use Rattle.std.proofs.Common.{◌≡◌, ◌+◌, sym, ◌∙◌, subst}
use Rattle.methods.specs.PivotalRuns.{pivotal_tree, Held}
use Rattle.methods.proofs.PivotalCalls.{fought, held_fought, step_at}
use Rattle.plain.specs.Of.{whole, held}
use Rattle.pivotal.specs.Duels.{DueDuel}
use Rattle.pivotal.proofs.DuelsMethod.settle.Goals as goal

pub call-requires : goal.call-requires
call-requires c =
    let m = c.args.self.now in
    let u = c.args.units.now in
    let after = c.set-2.new.self in
    let duel = c.unwrap-duel.result in
    let due = subst (λ o. DueDuel u m o) c.unwrap-duel.ensures c.duel.ensures in
    let x = c.left-left.result.pending in
    let y = c.left-left.result.called in
    let keep = c.keeper.result in
    let f = fought (whole u) duel.total (held u) m.called duel.pending duel.a duel.b c.args.d x y keep (held c.set.new.self) (held after)
    due.1 c.left-left.ensures.pending c.left-left.ensures.called c.keeper.ensures c.set.ensures.held c.set-2.ensures.held in
    subst (λ t. Held t (held after) (m.called + 1) keep) (sym (c.set-2.ensures.whole ∙ c.set.ensures.whole))
    (held_fought (whole u) (held u) m.called m.pending duel.pending duel.a duel.b c.args.d x y keep (held after) c.requires.kept due.0 f)

pub returns-clause-tree : goal.returns-clause-tree
returns-clause-tree c =
    let m = c.args.self.now in
    let u = c.args.units.now in
    let after = c.set-2.new.self in
    let duel = c.unwrap-duel.result in
    let due = subst (λ o. DueDuel u m o) c.unwrap-duel.ensures c.duel.ensures in
    let x = c.left-left.result.pending in
    let y = c.left-left.result.called in
    let keep = c.keeper.result in
    let f = fought (whole u) duel.total (held u) m.called duel.pending duel.a duel.b c.args.d x y keep (held c.set.new.self) (held after)
    due.1 c.left-left.ensures.pending c.left-left.ensures.called c.keeper.ensures c.set.ensures.held c.set-2.ensures.held in
    let all = c.set-2.ensures.whole ∙ c.set.ensures.whole in
    let next = c.call.result in
    step_at (whole u) (held u) m.called m.pending duel.pending duel.a duel.b c.args.d x y keep (held after) c.requires.kept due.0 f
    (whole after) next.called next.pending all
    (subst (λ t. pivotal_tree t (held after) next.called next.pending ≡ pivotal_tree t (held after) (m.called + 1) keep) all c.call.ensures.same)
