use Rattle.std.proofs.Common.{refl}
use Rattle.std.proofs.lemmas.Result.{err_from_is_err_and}
use Rattle.weights.proofs.Frames.{scale_refused, scale_stood}
use Rattle.weights.proofs.Weights.try_for.Goals as goal

pub returns-in_err-self : goal.returns-in_err-self
returns-in_err-self g c list num run h =
    let p = err_from_is_err_and c.from_residual.result c.from_residual.ensures.1 in
    rw (p.1, p.2) (scale_refused c.args.units num run.denominator _ _ c.in_err-self.field-0.0 (c.in_err-self.ensures.answers list num run h))

pub returns : goal.returns
returns g c list num run h =
    scale_stood c.args.units num run.denominator c.in_ok-self.field-0 _ c.weigh.result refl (c.in_ok-self.ensures.answers list num run h) (c.weigh.ensures.answers list num run h)
