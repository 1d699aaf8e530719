use Rattle.std.proofs.Common.{◌-◌, cond, ltb, get_or, Ok, sym, ◌∙◌, subst, ap}
use Rattle.design.specs.Design.{Shared}
use Rattle.design.specs.Fractions.{Fraction, fraction}
use Rattle.parts.specs.Running.{is_chosen, so_far}
use Rattle.parts.proofs.Stepping.{share_here, share_aside, share_unmoved}
use Rattle.series.specs.Of.{tables_of, standing}
use Rattle.series.proofs.Series.share_seated.Goals as goal
use Rattle.series.proofs.Series.share_seated.Goals.{else-j-self-via-then-j-self+else-self, else-j-self-via-else-j-self}

pub returns-then-self : goal.returns-then-self
returns-then-self g c h =
    let s = c.args.self.now in
    let v = tables_of s in
    let st = g.D.Design.tree s.below in
    let B = g.D.Design.plan s.below in
    share_here B (g.met.D.Design.sound s.below) v c.args.k c.args.j c.requires.seated st c.share.result h.underway c.if-j-self.true
    (subst (λ firsts. Shared st (c.args.k - get_or firsts c.args.j 0) c.share.result) c.as_slice.ensures.items c.share.ensures)

pub returns-else-j-self : goal.returns-else-j-self
returns-else-j-self g c h =
    let s = c.args.self.now in
    let v = tables_of s in
    let st = g.D.Design.tree s.below in
    let B = g.D.Design.plan s.below in
    let law = g.met.D.Design.sound s.below in
    let k = c.args.k in
    let j = c.args.j in
    let seat = c.requires.seated in
    subst (λ (a : Fraction). Shared (standing g.D.Design s) k (Ok a))
    (sym (c.share_noted.ensures
    ∙ ap (λ (p : Fraction). fraction (cond (ltb j v.stage) (cond (so_far v k) p.1 0) (cond (is_chosen v j) p.0 0)) p.1)
    (h.underway.loaded.shares_are k c.requires.listed)))
    (elim c.else-j-self.branch [
      | else-j-self-via-then-j-self+else-self w ↦ share_unmoved B law v k j seat st s.table.chosen_all h.underway w.if-j-self.true w.if-self.false
      | else-j-self-via-else-j-self w ↦ share_aside B law v k j seat st h.underway w.if-j-self.false
    ])
