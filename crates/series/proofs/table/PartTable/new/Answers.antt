use Rattle.std.proofs.Common.{◌≡◌, ℕ, List, [], ◌∷◌, ◌++◌, length, refl, sym, ap, ◌∙◌, arith, rules}
use Rattle.series.proofs.table.PartTable.new.Goals as goal

pub invariant_of-result-2 : goal.invariant_of-result-2
invariant_of-result-2 c =
    let none : c.in_ok-bounds.bounds ≡ [] = c.in_ok-bounds.ensures in
    let first : c.push.new.self ≡ 0 ∷ [] = c.push.ensures.appended (omega (arith, ap length none)) ∙ ap (λ (xs : List ℕ). xs ++ 0 ∷ []) none in
    let held : c.bounds.inside.items.items ≡ 0 ∷ [] = c.bounds.view_is ∙ first in
    record {
      rows_few = search rules;
      shares_all = search rules;
      taken_all = search rules;
      bounds_rise = rw held (∣ (refl, sym (ap length c.in_ok-new.ensures)) ∣₁);
      bounds_few = omega (arith, ap length held);
      samples_all = omega (arith, ap length held, ap length c.in_ok-new-4.ensures);
      chosen_all = omega (arith, ap length held, ap length c.in_ok-new-5.ensures);
      stage_within = omega (arith, ap length held);
    }
