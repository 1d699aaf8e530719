use Rattle.std.proofs.Common.{cond, ltb, get_or, ◌∙◌, ap₂}
use Rattle.methods.proofs.Poissons.{way_more, step_at, held_step}
use Rattle.plain.specs.Of.{whole, held}
use Rattle.poisson.proofs.TrialsMethod.settle.Goals as goal

pub returns-clause-tree : goal.returns-clause-tree
returns-clause-tree c =
    let called = c.args.self.now.called in
    let u = c.args.units.now in
    let after = c.set.new.self in
    let left = c.settled.ensures ∙ ap₂ (λ goal all. cond (ltb c.args.d goal) all 0) c.get-goal.ensures c.total.ensures in
    step_at (whole u) (held u) called (whole after) (held after) c.args.d c.settled.result c.set.ensures.whole c.set.ensures.held c.requires.kept.0
    (way_more (whole u) (held u) called c.args.d c.requires.below) left

pub returns-clause-kept : goal.returns-clause-kept
returns-clause-kept c =
    let called = c.args.self.now.called in
    let u = c.args.units.now in
    let after = c.set.new.self in
    let left = c.settled.ensures ∙ ap₂ (λ goal all. cond (ltb c.args.d goal) all 0) c.get-goal.ensures c.total.ensures in
    held_step (whole u) (held u) called (whole after) (held after) c.settled.result (ltb c.args.d (get_or (held u) called 0))
    c.set.ensures.whole c.set.ensures.held c.requires.kept (way_more (whole u) (held u) called c.args.d c.requires.below) left
