use Rattle.std.proofs.Common.{◌≡◌, ◌+◌, ◌-◌, ◌<◌, length, sym, refl, ap, ◌∙◌, subst, arith}
use Rattle.parts.specs.Running.{Tables}
use Rattle.parts.specs.Trying.{with_shares}
use Rattle.parts.proofs.Trying.{TriedFrom}
use Rattle.parts.proofs.Trying.{trial_start, trial_step}
use Rattle.series.specs.Of.{plans, tables_of}
use Rattle.series.proofs.Tabled.{rising, counted}
use Rattle.series.proofs.Tries.{tried_as, ready}
use Rattle.series.proofs.Series.try_parts.Goals as goal

pub loop-j-init : goal.loop-j-init
loop-j-init g c =
    let s = c.args.self.now in
    let v = tables_of s in (
      refl,
      refl,
      trial_start (plans g.D.Design s) v (rising s.table) {U = Unit {0}} tt v.shares c.count-j.result (g.D.Design.tree s.below) s.table.chosen_all
          (c.count-j.ensures ∙ sym (counted s.table)),
    )

pub try_part-requires : goal.try_part-requires
try_part-requires g c =
    let s = c.args.self.now in
    omega (arith, c.loop-j-test.true, c.loop-j.auto.j, c.count-j.ensures, counted s.table, ap (λ (v : Tables). length v.chosen) c.loop-j.invariant.1)

pub loop-j-preserved : goal.loop-j-preserved
loop-j-preserved g c =
    let s = c.args.self.now in
    let l = c.loop-j in
    let x = c.try_part.new.self in
    let D = g.D.Design in
    let B = plans D s in
    let v = tables_of s in
    let w = tables_of l.self in
    let j = l.j - 1 in
    let next : l.j ≡ j + 1 = omega (arith, c.loop-j-test.true) in
    let place : j + 1 < length v.bounds = omega (arith, c.loop-j-test.true, l.auto.j, c.count-j.ensures, counted s.table, s.table.chosen_all) in
    let behind = subst (λ i. TriedFrom {U = Unit {0}} B v w.shares i (D.tree l.self.below) l.answer) next l.invariant.2 in
    let tried = tried_as B (plans D l.self) v w j w.shares (tables_of x).shares (D.tree x.below) c.try_part.result l.invariant.0 l.invariant.1 c.try_part.ensures.tried in (
      c.try_part.ensures.settings ∙ l.invariant.0,
      c.try_part.ensures.same ∙ ap (λ (w : Tables). with_shares w (tables_of x).shares) l.invariant.1,
      subst (λ r. TriedFrom {U = Unit {0}} B v (tables_of x).shares j (D.tree x.below) r) (sym c.and-answer.ensures)
          (trial_step B v (rising s.table) w.shares (tables_of x).shares j (D.tree l.self.below) (D.tree x.below) place c.try_part.result l.answer
          behind tried),
    )

pub returns-clause-tried : goal.returns-clause-tried
returns-clause-tried g c =
    let s = c.args.self.now in
    let l = c.loop-j in
    let D = g.D.Design in
    let B = plans D s in
    let v = tables_of s in
    let w = tables_of l.self in
    let done : l.j ≡ 0 = omega (arith, c.loop-j-test.false) in
    ready B (plans D l.self) v w (D.tree l.self.below) l.answer (rising s.table) l.invariant.0 l.invariant.1
    (subst (λ i. TriedFrom {U = Unit {0}} B v w.shares i (D.tree l.self.below) l.answer) done l.invariant.2)
