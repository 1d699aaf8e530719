use Rattle.std.proofs.Common.{◌∙◌}
use Rattle.std.proofs.lemmas.Result.{err_from_is_err_and}
use Rattle.weights.proofs.Prescribed.{one_more, passed_before, scale_found}
use Rattle.weights.specs.Scale.{scale_of}
use Rattle.weights.proofs.scale.find_scale.Goals as goal

pub returns-in_err-scale-clause-answers : goal.returns-in_err-scale-clause-answers
returns-in_err-scale-clause-answers g c list num run h =
    let more = one_more _ c.args.units list num run c.loop-k.k c.in_ok-share.field-0 c.loop-k.scale _ h c.loop-k-test.true c.in_ok-share.ensures
    (c.loop-k.invariant.1 list num run h) c.lowest_terms-top.ensures.numerator in
    let p = err_from_is_err_and c.from_residual-in_err-scale.result c.from_residual-in_err-scale.ensures.1 in
    rw (p.1, p.2) (passed_before _ (scale_of c.args.units num run.denominator) _ _ c.in_err-scale.field-0.0 (c.in_err-scale.ensures.answers more.some_scale more.some_p) more.rises)

pub loop-k-preserved : goal.loop-k-preserved
loop-k-preserved g c = (
  c.in_ok-scale.ensures.small,
  λ list num run h.
      let more = one_more _ c.args.units list num run c.loop-k.k c.in_ok-share.field-0 c.loop-k.scale _ h c.loop-k-test.true c.in_ok-share.ensures
      (c.loop-k.invariant.1 list num run h) c.lowest_terms-top.ensures.numerator in
      scale_found c.in_ok-scale.scale _ (c.in_ok-scale.ensures.answers more.some_scale more.some_p) ∙ more.next,
)
