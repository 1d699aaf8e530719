use Rattle.std.proofs.Common.{◌+◌, ◌<◌, ◌≤◌, set, sym, ap, ◌∙◌, subst, inl, inr, arith}
use Rattle.methods.proofs.Striking.{Striking, striking_more}
use Rattle.plain.specs.Of.{runs, whole, held}
use Rattle.systematic.proofs.strike.Goals as goal
use Rattle.systematic.proofs.strike.Goals.{then-point-sum, else-point-sum}

pub loop-i-preserved : goal.loop-i-preserved
loop-i-preserved c =
    let l = c.loop-i in
    let u = c.args.units.now in
    let j = c.if-point-sum in (
      subst (λ x. Striking (whole u) (held u) c.args.r (l.i + 1) (l.sum + x) j.point (held j.units)) (sym (c.from-sum.ensures ∙ c.get.ensures))
          (striking_more (whole u) (held u) c.args.r l.i l.sum l.point (held l.units) (held j.units) j.point
          (omega (arith, c.requires.below)) c.requires.within (omega (arith, c.loop-i-test.true, c.units-i-end.ensures)) l.invariant.0
          (elim j.branch [
            | then-point-sum w ↦ inl (
              subst (λ x. l.point < l.sum + x) (c.from-sum.ensures ∙ c.get.ensures) w.if-point-sum.true,
              ap held w.units-is ∙ w.set.ensures.held ∙ ap (λ x. set (held l.units) l.i x) c.total-total.ensures,
              w.point-is ∙ ap (λ x. l.point + x) (w.from-point-then-point-sum.ensures ∙ c.total-total.ensures),
            )
            | else-point-sum w ↦ inr (
              subst (λ x. l.sum + x ≤ l.point) (c.from-sum.ensures ∙ c.get.ensures) w.if-point-sum.false,
              ap held w.units-is ∙ w.set-else-point-sum.ensures.held,
              w.point-is,
            )
          ])),
      elim j.branch [
        | then-point-sum w ↦ ap whole w.units-is ∙ w.set.ensures.whole ∙ l.invariant.1
        | else-point-sum w ↦ ap whole w.units-is ∙ w.set-else-point-sum.ensures.whole ∙ l.invariant.1
      ],
      elim j.branch [
        | then-point-sum w ↦ ap runs w.units-is ∙ w.set.ensures.runs ∙ l.invariant.2
        | else-point-sum w ↦ ap runs w.units-is ∙ w.set-else-point-sum.ensures.runs ∙ l.invariant.2
      ],
    )
