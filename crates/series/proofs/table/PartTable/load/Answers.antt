use Rattle.std.proofs.Common.{◌≡◌, ℕ, ◌-◌, ◌<◌, ◌≤◌, true, false, List, length, sym, ap, subst, arith}
use Rattle.std.proofs.lemmas.List.{length-replicate}
use Rattle.parts.specs.Bounds.{Rising}
use Rattle.parts.specs.Parts.{bounds}
use Rattle.parts.specs.Running.{no_share}
use Rattle.parts.proofs.Cuts.{rising_bounds}
use Rattle.parts.proofs.Places.{rising_zero}
use Rattle.series.specs.Kinds.{alike}
use Rattle.series.proofs.table.PartTable.load.Goals as goal

pub overflow_sub-count : goal.overflow_sub-count
overflow_sub-count c =
    let list = c.args.list.now in
    let cut = alike c.args.kind in
    omega (arith, c.len-count.ensures.len, ap length c.note_bounds.ensures.items, (rising_zero (bounds cut list) (length list) (rising_bounds cut list c.requires.some)).1)

pub invariant_of-self : goal.invariant_of-self
invariant_of-self c =
    let list = c.args.list.now in
    let cut = alike c.args.kind in
    let rise = rising_bounds cut list c.requires.some in
    let rows : length c.copy_from.new.self ≡ length list = ap length (c.copy_from.ensures.copied c.requires.few) in
    let some : 0 < length c.note_bounds.new.bounds = omega (arith, ap length c.note_bounds.ensures.items, (rising_zero (bounds cut list) (length list) rise).1) in
    let parts_few : c.len-count.result - 1 ≤ 1024 = omega (arith, c.len-count.ensures.len, c.note_bounds.ensures.len, c.requires.few) in
    record {
      rows_few = omega (arith, rows, c.requires.few);
      shares_all = omega (arith, rows, ap length (c.fill.ensures.filled c.requires.few), length-replicate (length list) no_share);
      taken_all = omega (arith, rows, ap length (c.fill-2.ensures.filled c.requires.few), length-replicate (length list) false);
      bounds_rise = ∣ subst (λ (xs : List ℕ). Rising xs (length c.copy_from.new.self)) (sym c.note_bounds.ensures.items) (subst (λ n. Rising (bounds cut list) n) (sym rows) rise) ∣₁;
      bounds_few = omega (arith, rows, c.note_bounds.ensures.len);
      samples_all = omega (arith, some, c.len-count.ensures.len, ap length (c.fill-3.ensures.filled parts_few), length-replicate {A = ℕ} (c.len-count.result - 1) 0);
      chosen_all = omega (arith, some, c.len-count.ensures.len, ap length (c.fill-4.ensures.filled parts_few), length-replicate (c.len-count.result - 1) true);
      stage_within = some;
    }
