use Rattle.std.proofs.Common.{◌+◌, ◌<◌, length, Some, sym, refl, ◌∙◌, arith}
use Rattle.methods.proofs.PivotalCalls.{going_past, going_first}
use Rattle.plain.specs.Of.{whole, held}
use Rattle.pivotal.proofs.Duels.call.Goals as goal
use Rattle.pivotal.proofs.Duels.call.Goals.{then-is_some-via-then-is_some, then-is_some-via-else-is_some+then-called-units}

pub returns-then-is_some : goal.returns-then-is_some
returns-then-is_some c =
    let m = c.args.self in
    let u = c.args.units.now in
    let first = c.next_short-called in
    let g = going_past (whole u) (held u) m.called m.pending m.called m.pending first.result (c.requires, refl) first.ensures.onward first.ensures.within first.ensures.full in
    record {
      kept = (
        g.0,
        λ l. (
          elim c.then-is_some.branch [
            | then-is_some-via-then-is_some w ↦ sym c.is_some.ensures ∙ w.if-is_some.true
            | then-is_some-via-else-is_some+then-called-units w ↦ absurd (omega (arith, l, w.units.ensures, w.if-called-units.true))
          ],
          first.ensures.short l,
        ),
      );
      same = g.1;
    }

pub returns : goal.returns
returns c =
    let m = c.args.self in
    let u = c.args.units.now in
    let first = c.next_short-called in
    let next = c.next_short in
    let g = going_past (whole u) (held u) m.called m.pending m.called m.pending first.result (c.requires, refl) first.ensures.onward first.ensures.within first.ensures.full in
    let more : first.result < length (held u) = omega (arith, first.ensures.within, c.units.ensures, c.if-called-units.false) in
    let h = going_first (whole u) (held u) m.called m.pending first.result m.pending g more (first.ensures.short more) (sym c.is_some.ensures ∙ c.if-is_some.false) in
    let n = going_past (whole u) (held u) m.called m.pending (first.result + 1) (Some first.result) next.result h next.ensures.onward next.ensures.within next.ensures.full in
    record { kept = (n.0, λ l. (refl, next.ensures.short l)); same = n.1 }
