use Rattle.std.proofs.Common.{ℕ, ◌+◌, cond, List, [], ◌∷◌, ◌++◌, sym, ap, ◌∙◌, subst, length, arith}
use Rattle.std.specs.Slice.Iter.{windows_rest, windows_size}
use Rattle.parts.specs.Parts.{bounds}
use Rattle.parts.proofs.Noting.{Noting, noted_first, noted_more, noted_last}
use Rattle.series.specs.Kinds.{alike}
use Rattle.series.proofs.table.making.note_bounds.Goals as goal

pub loop-i-init : goal.loop-i-init
loop-i-init c =
    let from = c.into_iter-i-iterator.ensures.into_iter_gives in
    let items = c.enumerate-i-items.ensures in
    noted_first (alike c.args.kind) c.args.list.now _ _ _ _ c.requires.some
    (ap (λ e. windows_size e.iter) from ∙ ap windows_size items.source ∙ c.windows.ensures.size)
    (ap (λ e. windows_rest e.iter) from ∙ ap windows_rest items.source ∙ c.windows.ensures.rest)
    (ap (λ e. e.count) from ∙ items.count)
    (c.push.ensures.appended (omega (arith, ap length c.clear.ensures)) ∙ ap (λ (xs : List ℕ). xs ++ 0 ∷ []) c.clear.ensures)

pub loop-i-preserved : goal.loop-i-preserved
loop-i-preserved c =
    let h = c.in-Some.ensures.steps in
    let l = c.loop-i in
    let kind = c.args.kind in
    let list = c.args.list.now in
    let next = c.next.new.self in
    subst (λ (xs : List ℕ). Noting (alike kind) list (bounds (alike kind) list) next.count (windows_size next.iter) (windows_rest next.iter) xs)
    (ap (λ b. cond b l.bounds (l.bounds ++ (l.i-iterator.count + 1) ∷ [])) c.if-not-joins.false)
    (noted_more (alike kind) list c.joins.result (bounds (alike kind) list) l.bounds _ _ _ _ _ _ c.in-Some.pair.now l.invariant h.0.0 h.0.1.0 h.0.1.1 h.0.1.2 h.2 c.joins.ensures)

pub loop-i-preserved-then-not-joins : goal.loop-i-preserved-then-not-joins
loop-i-preserved-then-not-joins c =
    let h = c.in-Some.ensures.steps in
    let l = c.loop-i in
    let kind = c.args.kind in
    let list = c.args.list.now in
    let next = c.next.new.self in
    subst (λ (xs : List ℕ). Noting (alike kind) list (bounds (alike kind) list) next.count (windows_size next.iter) (windows_rest next.iter) xs)
    (ap (λ b. cond b l.bounds (l.bounds ++ (l.i-iterator.count + 1) ∷ [])) c.if-not-joins.true ∙ ap (λ i. l.bounds ++ (i + 1) ∷ []) (sym h.1) ∙ sym (c.push-then-not-joins.ensures.appended (omega arith)))
    (noted_more (alike kind) list c.joins.result (bounds (alike kind) list) l.bounds _ _ _ _ _ _ c.in-Some.pair.now l.invariant h.0.0 h.0.1.0 h.0.1.1 h.0.1.2 h.2 c.joins.ensures)

pub returns-clause-items : goal.returns-clause-items
returns-clause-items c =
    c.push-2.ensures.appended (omega arith)
    ∙ noted_last (alike c.args.kind) c.args.list.now (bounds (alike c.args.kind) c.args.list.now) _ _ _ _ c.loop-i.invariant c.in-None.ensures.steps.0.1.0
