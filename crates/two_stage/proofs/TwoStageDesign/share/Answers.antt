use Rattle.std.proofs.Common.{◌≡◌, ◌*◌, ◌^◌, ◌<◌, length, Ok, Err, Result, sym, ap, ◌∙◌, subst, arith}
use mathlib.Core.Logic.{∥∥₁_elim}
use Rattle.design.specs.Design.{Shared}
use Rattle.design.proofs.Once.{shared_once}
use Rattle.std.proofs.lemmas.Result.{err_from_is_err_and}
use Rattle.design.specs.declared.fault.Fault.{Fault}
use Rattle.design.specs.Fractions.{Fraction}
use Rattle.parts.specs.Series.{numerators, denominators}
use Rattle.parts.specs.Running.{all_parts, has_present}
use Rattle.layers.specs.Stages.{in_first, in_second}
use Rattle.layers.proofs.Stages.{shared_first, shared_second}
use Rattle.series.specs.Of.{plans, tables_of, standing}
use Rattle.two_stage.specs.Of.{stands}
use Rattle.two_stage.specs.Stands.{stands_in, IntactIn}
use Rattle.two_stage.specs.Exact.{exact_stages}
use Rattle.two_stage.specs.declared.Stage.{Stage}
use Rattle.two_stage.specs.declared.Stage.TheVariants.{First, Second}
use Rattle.two_stage.proofs.Shares.{never_refused, second_refused, as_answered, first_underway, in_first_stage, in_second_stage}
use Rattle.two_stage.proofs.TwoStageDesign.share.Goals as goal

pub returns-in_err-first : goal.returns-in_err-first
returns-in_err-first g c =
    ∥∥₁_elim c.args.self.now.together (shared_once (stands g.A.Design g.B.Design c.args.self.now) c.args.k c.from_residual.result)
    (λ h.
    let s = c.args.self.now in
    let v = tables_of s.second in
    let st = g.A.Design.tree s.first in
    let B = plans g.B.Design s.second in
    let u = first_underway s.stage B v st (g.B.Design.tree s.second.below) c.if-eq.ensures h in
    let l : c.args.k < length v.rows = omega (arith, c.if-k-units.false, c.units.ensures) in
    absurd (never_refused B v st u.fits c.args.k c.part_of-cluster.result (c.part_of-cluster.ensures l) c.in_err-first.field-0.0 c.in_err-first.ensures))

pub returns-then-eq-2 : goal.returns-then-eq-2
returns-then-eq-2 g c =
    ∥∥₁_elim c.args.self.now.together (shared_once (stands g.A.Design g.B.Design c.args.self.now) c.args.k (Ok c.times.result))
    (λ h.
    let s = c.args.self.now in
    let v = tables_of s.second in
    let k = c.args.k in
    let st = g.A.Design.tree s.first in
    let su = g.B.Design.tree s.second.below in
    let B = plans g.B.Design s.second in
    let law = g.met.B.Design.sound s.second.below in
    let stage = in_first_stage s.stage c.if-eq-2.ensures in
    let f = subst (λ (z : Stage). IntactIn z B v st su) stage h in
    let l : k < length v.rows = omega (arith, c.if-k-units.false, c.units.ensures) in
    let L = f.drawing.underway.loaded in
    let first = c.in_ok-first.first in
    let shares = shared_first B law v L st f.drawing.underway.fits k c.part_of-cluster.result l (c.part_of-cluster.ensures l) first.0 first.1 c.in_ok-first.ensures in
    let sound = exact_stages First B law v st su (g.met.A.Design.exact s.first) (g.met.B.Design.exact s.second.below) f in
    let within = c.prescribed-within.ensures ∙ L.shares_are k l in
    subst (λ (z : Stage). Shared (stands_in z B v st su) k (Ok c.times.result)) (sym stage)
    (as_answered (in_first B v st) sound k (first.0 * numerators B (all_parts v) k) (first.1 * denominators B (all_parts v) k) c.times.result shares
    (subst (λ x. x < 2 ^ 64 → c.times.result.0 ≡ x) (ap (λ (x : Fraction). first.0 * x.0) within) c.times.ensures.numerator)
    (subst (λ x. x < 2 ^ 64 → c.times.result.1 ≡ x) (ap (λ (x : Fraction). first.1 * x.1) within) c.times.ensures.denominator)))

pub returns : goal.returns
returns g c =
    ∥∥₁_elim c.args.self.now.together (shared_once (stands g.A.Design g.B.Design c.args.self.now) c.args.k (Ok c.times-2.result))
    (λ h.
    let s = c.args.self.now in
    let v = tables_of s.second in
    let k = c.args.k in
    let st = g.A.Design.tree s.first in
    let su = g.B.Design.tree s.second.below in
    let B = plans g.B.Design s.second in
    let law = g.met.B.Design.sound s.second.below in
    let stage = in_second_stage s.stage c.if-eq.ensures c.if-eq-2.ensures in
    let f = subst (λ (z : Stage). IntactIn z B v st su) stage h in
    let l : k < length v.rows = omega (arith, c.if-k-units.false, c.units.ensures) in
    let first = c.in_ok-first.first in
    let within = c.in_ok-within.within in
    let shares = shared_second B law v f.underway.loaded st su f.underway.fits k c.part_of-cluster.result (c.part_of-cluster.ensures l) first.0 first.1
    c.in_ok-first.ensures within.0 within.1 (c.in_ok-within.ensures.seated f.series (c.part_of-cluster.ensures l)) in
    let sound = exact_stages Second B law v st su (g.met.A.Design.exact s.first) (g.met.B.Design.exact s.second.below) f in
    subst (λ (z : Stage). Shared (stands_in z B v st su) k (Ok c.times-2.result)) (sym stage)
    (as_answered (in_second B v st (standing g.B.Design s.second)) sound k (first.1 * within.0) (first.1 * within.1) c.times-2.result shares
    c.times-2.ensures.numerator
    c.times-2.ensures.denominator))

pub returns-in_err-within : goal.returns-in_err-within
returns-in_err-within g c =
    let s = c.args.self.now in
    let v = tables_of s.second in
    let k = c.args.k in
    let st = g.A.Design.tree s.first in
    let su = g.B.Design.tree s.second.below in
    let B = plans g.B.Design s.second in
    let r = c.from_residual-in_err-within.result in
    let p = err_from_is_err_and r c.from_residual-in_err-within.ensures.1 in
    let stage = in_second_stage s.stage c.if-eq.ensures c.if-eq-2.ensures in
    let l : k < length v.rows = omega (arith, c.if-k-units.false, c.units.ensures) in
    ∥∥₁_elim s.together (shared_once (stands g.A.Design g.B.Design s) k r)
    (λ h.
    let f = subst (λ (z : Stage). IntactIn z B v st su) stage h in
    subst (λ (x : Result Fraction Fault). Shared (stands g.A.Design g.B.Design s) k x) (sym (p.1 ∙ ap Err p.2))
    (subst (λ (z : Stage). Shared (stands_in z B v st su) k (Err c.in_err-within.field-0.0)) (sym stage)
    (second_refused B v st su (has_present v) k c.in_err-within.field-0.0 l (c.in_err-within.ensures.seated f.series (c.part_of-cluster.ensures l)))))
