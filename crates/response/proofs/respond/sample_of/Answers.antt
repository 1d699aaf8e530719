use Rattle.std.proofs.Common.{subst}
use Rattle.throws.specs.Sources.{generated}
use Rattle.response.specs.Failures.{Prints}
use Rattle.response.specs.Responses.{PrintsWith, plans_of}
use Rattle.response.proofs.respond.sample_of.Goals as goal

pub returns : goal.returns
returns c =
    let f = c.args.frame.now in
    subst (λ ws. Prints (PrintsWith (plans_of f) ws f) c.sample_by.result) c.new-source.ensures
    (subst (λ P. Prints (PrintsWith P (generated c.new-source.result) f) c.sample_by.result) c.in_ok-design.ensures c.sample_by.ensures)
