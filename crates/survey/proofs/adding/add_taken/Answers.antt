use Rattle.std.proofs.Common.{◌≡◌, ◌<◌, true, false, length, Ok, ap, subst, ◌∙◌, slice_index, arith, replicate, pos}
use Rattle.design.specs.Design.{Taken}
use Rattle.totals.specs.Rows.{raised}
use Rattle.plain_survey.specs.Reports.{row_of_reading}
use Rattle.plain_survey.proofs.Reports.{lawful_at, row_is}
use Rattle.survey.specs.Means.{kind_of}
use Rattle.survey.proofs.TakenUnits.{taken_is, count_few, admitted, not_refused, count_more, added_more}
use Rattle.survey.proofs.adding.add_taken.Goals as goal
use Rattle.survey.proofs.adding.add_taken.Goals.{then-branch+in_ok-add, else-branch}

pub returns-in_err-add : goal.returns-in_err-add
returns-in_err-add g c u f a =
    let k = c.loop-k.k in
    let x = c.index-readings-k.result in
    let inv = c.loop-k.invariant.1 u f a in
    let l : k < length c.args.readings.now = c.loop-k-test.true in
    absurd (not_refused (slice_index c.args.weights.now k) (g.T.Total.is_lawful x) (g.T.Total.additions c.loop-k.total) c.in_err-add.field-0.0
    (admitted _ _ _ (a.light k l) (lawful_at (kind_of g.T.Total) c.args.readings.now k x l a.lawful c.index-readings-k.is) (omega (arith, inv.2, count_few k u, l, c.requires.few)))
    c.in_err-add.ensures.answered)

pub loop-k-preserved : goal.loop-k-preserved
loop-k-preserved g c =
    let k = c.loop-k.k in
    let xs = c.args.readings.now in
    let kind = kind_of g.T.Total in
    let weight = slice_index c.args.weights.now in
    let l : k < length xs = c.loop-k-test.true in
    elim c.if-branch.branch [
      | then-branch+in_ok-add w ↦ (
        omega (arith, w.taken-is, c.loop-k.invariant.0),
        λ u f a.
            let inv = c.loop-k.invariant.1 u f a in
            let held : true ≡ u k = taken_is _ (length xs) u k true f
            (subst (λ b. Taken (g.D.Design.tree c.args.design.now) k (Ok b)) w.if-branch.true c.in_ok-taken.ensures) in (
              count_more k u true c.loop-k.taken c.if-branch.taken held inv.0 w.taken-is,
              added_more k u weight (row_of_reading kind xs) (replicate g.T.Total.WIDTH (pos 0)) (g.T.Total.entries c.loop-k.total) (g.T.Total.entries c.if-branch.total) true held inv.1
                  (ap g.T.Total.entries w.total-is ∙ w.in_ok-add.ensures.raised ∙ ap (raised (weight k) (g.T.Total.entries c.loop-k.total)) (row_is kind xs k c.index-readings-k.result l c.index-readings-k.is)),
              count_more k u true (g.T.Total.additions c.loop-k.total) (g.T.Total.additions c.if-branch.total) held inv.2 (ap g.T.Total.additions w.total-is ∙ w.in_ok-add.ensures.counted),
            ),
      )
      | else-branch w ↦ (
        omega (arith, w.taken-is, c.loop-k.invariant.0),
        λ u f a.
            let inv = c.loop-k.invariant.1 u f a in
            let held : false ≡ u k = taken_is _ (length xs) u k false f
            (subst (λ b. Taken (g.D.Design.tree c.args.design.now) k (Ok b)) w.if-branch.false c.in_ok-taken.ensures) in (
              count_more k u false c.loop-k.taken c.if-branch.taken held inv.0 (omega (arith, w.taken-is)),
              added_more k u weight (row_of_reading kind xs) (replicate g.T.Total.WIDTH (pos 0)) (g.T.Total.entries c.loop-k.total) (g.T.Total.entries c.if-branch.total) false held inv.1
                  (ap g.T.Total.entries w.total-is),
              count_more k u false (g.T.Total.additions c.loop-k.total) (g.T.Total.additions c.if-branch.total) held inv.2 (omega (arith, ap g.T.Total.additions w.total-is)),
            ),
      )
    ]
