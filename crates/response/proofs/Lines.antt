-- The lines of the units taken, one after another.
use Rattle.std.proofs.Common.{◌≡◌, ℕ, ◌+◌, Bool, cond, List, [], ◌++◌, sym, ap, ◌∙◌, add-one, append_assoc}
use Rattle.outcomes.specs.Trees.{Sample}
use Rattle.design.specs.Fractions.{Fraction}
use Rattle.sample_file.specs.Text.{unit_line, unit_lines}

-- the line of one more unit, where it is taken
pub one_line_more : (old now new : List ℕ) (u : Sample) (share : ℕ → Fraction) (k : ℕ) (b : Bool) → b ≡ u k → now ≡ old ++ unit_lines k u share
    → new ≡ now ++ cond b (unit_line k (share k)) [] → new ≡ old ++ unit_lines (k + 1) u share
one_line_more old now new u share k b taken so_far is =
    is ∙ ap (λ bytes. bytes ++ cond b (unit_line k (share k)) []) so_far ∙ append_assoc old (unit_lines k u share) (cond b (unit_line k (share k)) []) ∙ ap (λ c. old ++ (unit_lines k u share ++ cond c (unit_line k (share k)) [])) taken
    ∙ ap (λ n. old ++ unit_lines n u share) (sym (add-one k))
