use Rattle.std.proofs.Common.{◌≡◌, ℕ, List, [], ◌∷◌, length, Option, sym, ap, ◌∙◌, subst}
use Rattle.std.proofs.lemmas.Result.{err_from_is_err_and}
use Rattle.design.specs.Faults.{Refusal, or_else, first_of}
use Rattle.design.specs.Design.{Plan, Standing, no_run, in_run, Began}
use Rattle.design.proofs.Firsts.{accepted, refused_by}
use Rattle.design.specs.declared.row.Row.{Row}
use Rattle.parts.specs.Parts.{bounds, same_cluster}
use Rattle.design.specs.Plans.{Plans}
use Rattle.parts.specs.Series.{part_refusal}
use Rattle.layers.specs.TwoStage.{clusters, first_plan, clusters_refusal, first_refusal, product_refusal, stage_numerators, stages_run, two_stage_plan}
use Rattle.layers.proofs.Standings.{refused_as, begun}
use Rattle.series.specs.Of.{plans, tables_of}
use Rattle.two_stage.specs.declared.Stage.{Stage}
use Rattle.two_stage.specs.Of.{number_set, stands, CutInto, first_does, opening_refusal, Opened}
use Rattle.two_stage.specs.Stands.{stands_in, standing_at}
use Rattle.two_stage.proofs.Begun.{opening_is, run_is}
use Rattle.two_stage.proofs.TwoStageDesign.begin.Goals as goal

-- the refusals that follow the cut
abbrev rest : Plans → Plans → ℕ → List Row → ℕ → Option Refusal
rest A B m list n =
    let a : Plan = first_plan A (clusters m list) m n in
    first_of (first_refusal (bounds same_cluster list) a ∷ part_refusal B (clusters m list) ∷ product_refusal a B (clusters m list) (length list) ∷ [])

pub returns-in_err-drawn-clause-begun : goal.returns-in_err-drawn-clause-begun
returns-in_err-drawn-clause-begun g c =
    let s = c.args.self.now in
    let m = number_set s in
    let list = c.args.list.now in
    let n = c.args.n in
    let A = g.A.Design.plan s.first in
    let B = g.B.Design.plan s.second.below in
    let x = c.cut.new.self in
    let a = first_plan A (clusters m list) m n in
    let r = c.from_residual.result in
    let p = err_from_is_err_and r c.from_residual.ensures.1 in
    let e = c.in_err-drawn.field-0.0 in
    let none : stands g.A.Design g.B.Design x ≡ no_run =
    ap (λ (z : Stage). stands_in z (plans g.B.Design x.second) (tables_of x.second) (g.A.Design.tree x.first) (g.B.Design.tree x.second.below)) c.cut.ensures.same.stage in
    let cut = refused_by (clusters_refusal m list n) (λ q. CutInto m q list n x) e c.in_err-drawn.ensures.answers in
    subst (λ (st : Standing). Began (two_stage_plan m A B list n) r st) (sym none)
    (refused_as _ (or_else (clusters_refusal m list n) (rest A B m list n)) (stage_numerators a B (clusters m list)) (stages_run a B (clusters m list) (length list)) r p.0 e p.1 p.2
    (ap (λ (o : Option Refusal). or_else o (rest A B m list n)) cut))

pub returns-in_err-open-clause-begun : goal.returns-in_err-open-clause-begun
returns-in_err-open-clause-begun g c =
    let s = c.args.self.now in
    let m = number_set s in
    let list = c.args.list.now in
    let n = c.args.n in
    let A = g.A.Design.plan s.first in
    let B = g.B.Design.plan s.second.below in
    let x = c.cut.new.self in
    let y = c.open.new.self in
    let q = c.in_ok-drawn.drawn in
    let a = first_plan A (clusters m list) m n in
    let r = c.from_residual-in_err-open.result in
    let p = err_from_is_err_and r c.from_residual-in_err-open.ensures.1 in
    let e = c.in_err-open.field-0.0 in
    let none : stands g.A.Design g.B.Design y ≡ no_run =
    ap (λ (z : Stage). stands_in z (plans g.B.Design y.second) (tables_of y.second) (g.A.Design.tree y.first) (g.B.Design.tree y.second.below))
    (c.open.ensures.same.stage ∙ c.cut.ensures.same.stage) in
    let cut = accepted (clusters_refusal m list n) (λ q. CutInto m q list n x) q c.in_ok-drawn.ensures.answers in
    let opened = refused_by (opening_refusal (first_does g.A.Design x q) (plans g.B.Design x.second) (tables_of x.second)) (λ _. Opened g.A.Design g.B.Design (first_does g.A.Design x q) x y) e
    c.in_err-open.ensures.answers in
    let is = opening_is A B (g.A.Design.plan x.first) (plans g.B.Design x.second) m list n q (tables_of x.second) (ap (λ d. g.A.Design.plan d) c.cut.ensures.same.first)
    (ap (λ d. g.B.Design.plan d) c.cut.ensures.same.second) cut.1.clusters cut.1.drawn in
    subst (λ (st : Standing). Began (two_stage_plan m A B list n) r st) (sym none)
    (refused_as _ (or_else (clusters_refusal m list n) (rest A B m list n)) (stage_numerators a B (clusters m list)) (stages_run a B (clusters m list) (length list)) r p.0 e p.1 p.2
    (ap (λ (o : Option Refusal). or_else o (rest A B m list n)) cut.0 ∙ sym is ∙ opened))

pub invariant_of-self-2 : goal.invariant_of-self-2
invariant_of-self-2 g c =
    let x = c.cut.new.self in
    let y = c.open.new.self in
    let a = first_does g.A.Design x c.in_ok-drawn.drawn in
    let opened = accepted (opening_refusal a (plans g.B.Design x.second) (tables_of x.second)) (λ _. Opened g.A.Design g.B.Design a x y) c.in_ok-open.field-0 c.in_ok-open.ensures.answers in
    record { together = ∣ (c.in_ok-self.ensures.settled opened.1.underway).0 ∣₁ }

pub returns-clause-begun : goal.returns-clause-begun
returns-clause-begun g c =
    let s = c.args.self.now in
    let m = number_set s in
    let list = c.args.list.now in
    let n = c.args.n in
    let A = g.A.Design.plan s.first in
    let B = g.B.Design.plan s.second.below in
    let x = c.cut.new.self in
    let y = c.open.new.self in
    let q = c.in_ok-drawn.drawn in
    let a = first_plan A (clusters m list) m n in
    let cut = accepted (clusters_refusal m list n) (λ q. CutInto m q list n x) q c.in_ok-drawn.ensures.answers in
    let opened = accepted (opening_refusal (first_does g.A.Design x q) (plans g.B.Design x.second) (tables_of x.second)) (λ _. Opened g.A.Design g.B.Design (first_does g.A.Design x q) x y)
    c.in_ok-open.field-0 c.in_ok-open.ensures.answers in
    let first = ap (λ d. g.A.Design.plan d) c.cut.ensures.same.first in
    let second = ap (λ d. g.B.Design.plan d) c.cut.ensures.same.second in
    let is = opening_is A B (g.A.Design.plan x.first) (plans g.B.Design x.second) m list n q (tables_of x.second) first second cut.1.clusters cut.1.drawn in
    let run = run_is A B (g.A.Design.plan x.first) (plans g.B.Design x.second) m list n q (tables_of x.second) first second cut.1.clusters cut.1.drawn in
    let now = standing_at g.A.Design g.B.Design c.in_ok-self.field-0 y.first c.settle.new.second in
    begun _ (clusters_refusal m list n) (rest A B m list n) (stage_numerators a B (clusters m list)) (stages_run a B (clusters m list) (length list)) tt now
    cut.0 (sym is ∙ opened.0) ((c.in_ok-self.ensures.settled opened.1.underway).1 ∙ opened.1.run ∙ ap in_run run)
