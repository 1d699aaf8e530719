-- The text that is printed of a sample, and of a refusal.
use Rattle.std.specs.Prelude.{ℕ, zero, suc, cond, ℤ, List, [], ◌∷◌, ◌++◌, map, codes, decimal}
use Rattle.std.specs.Fmt.{signed_decimal}
use Rattle.outcomes.specs.Trees.{Sample}
use Rattle.design.specs.Fractions.{Fraction}
use Rattle.frame_file.specs.Faults.{FileRefusal}
use Rattle.frame_file.specs.Written.{line}

-- ---- lines
-- a taken unit: its number, and the numerator and the denominator of its share
abbrev pub unit_line : ℕ → Fraction → List ℕ
unit_line k share = line (decimal k ∷ decimal share.0 ∷ decimal share.1 ∷ [])

abbrev pub scale_line : ℕ → List ℕ
scale_line scale = line (codes "scale" ∷ decimal scale ∷ [])

-- a total of any kind: its name, and its entries
abbrev pub total_line : List ℕ → List ℤ → List ℕ
total_line name entries = line (name ∷ map signed_decimal entries)

abbrev pub money_line : List ℤ → List ℕ
money_line entries = total_line (codes "money") entries

abbrev pub table_line : List ℤ → List ℕ
table_line entries = total_line (codes "table") entries

abbrev pub fault_line : FileRefusal → List ℕ
fault_line x = line (codes "fault" ∷ decimal x.number ∷ decimal x.line ∷ decimal x.column ∷ decimal x.depth ∷ [])

-- ---- a sample
-- the lines of the units taken among the first so many, rising
abbrev pub unit_lines : ℕ → Sample → (ℕ → Fraction) → List ℕ
unit_lines zero taken share = []
unit_lines (suc k) taken share = unit_lines k taken share ++ cond (taken k) (unit_line k (share k)) []

-- what is reported of it: the scale, and the totals of money and of the table
abbrev pub report_text : ℕ → List ℤ → List ℤ → List ℕ
report_text scale money table = scale_line scale ++ money_line money ++ table_line table

-- the whole text
abbrev pub sample_text : ℕ → Sample → (ℕ → Fraction) → ℕ → List ℤ → List ℤ → List ℕ
sample_text units taken share scale money table = unit_lines units taken share ++ report_text scale money table
