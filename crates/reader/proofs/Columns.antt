-- The refusal of a line as a cursor goes through it, column by column.
use Rattle.std.proofs.Common.{◌≡◌, ℕ, ◌+◌, ◌<◌, ◌≤◌, ◌^◌, true, ltb, ℤ, List, [], ◌∷◌, length, Some, None, refl, sym, ap, ap₂, ◌∙◌}
use Rattle.std.specs.Fmt.{decimal, signed_decimal}
use Rattle.std.proofs.lemmas.Bool.{ltb-true}
use Rattle.frame_file.specs.Fields.{Form, FieldKind, amount, number, wrong_at, wrong_in}
use Rattle.frame_file.specs.Faults.{FileRefusal, wrong}
use Rattle.frame_file.specs.Refusals.{fields_refusal, wrong_here}
use Rattle.frame_file.specs.Written.{Between, MoneyFits}
use Rattle.frame_laws.proofs.Amounts.{amount_in_range}
use Rattle.frame_laws.proofs.FieldSteps.{goes_on, is_missing, is_surplus, number_fine, stops_here}
use Rattle.reader.specs.Cursors.{left, wrong_next, IsWrong, TakesField}
use Rattle.reader.specs.declared.fields.Fields.{Fields}

wrong_first : (form : Form) (i c n : ℕ) (kind : FieldKind) (fs : List (List ℕ)) → form.kind_at c ≡ Some kind → wrong_next kind fs ≡ Some n → (fs ≡ [] → c ≤ form.least)
    → fields_refusal form i c fs ≡ Some (wrong n i c)
wrong_first form i c n kind [] is h need = is_missing form i c (need refl) ∙ ap (wrong_here i c) h
wrong_first form i c n kind (f ∷ fs) is h need = stops_here form i c n f fs (ap (λ k. wrong_at k f) is ∙ h)

-- nothing is wrong in the fields fs of line i before column c, where the cursor is
pub record FineTo (form : Form) (i c : ℕ) (fs : List (List ℕ)) (at : Fields) : Type 0 where
  pub same : fields_refusal form i 1 fs ≡ fields_refusal form i c (left at)
  pub line : at.line ≡ i
  pub column : at.column ≡ c

pub begun : {form : Form} {i : ℕ} {fs : List (List ℕ)} {at : Fields} → left at ≡ fs → (at.line ≡ i) × (at.column ≡ 1) → FineTo form i 1 fs at
begun {form} {i} e place = record { same = ap (fields_refusal form i 1) (sym e); line = place.0; column = place.1 }

module _ {form : Form} {i c : ℕ} {fs : List (List ℕ)} {at : Fields} (fine : FineTo form i c fs at) where
  after : {kind : FieldKind} {f : List ℕ} {next : Fields} → TakesField at f next → form.kind_at c ≡ Some kind → wrong_in kind f ≡ None → FineTo form i (c + 1) fs next
  after {kind} {f} {next} read is none = record {
    same = fine.same ∙ ap (fields_refusal form i c) read.field ∙ goes_on form i c f (left next) (ap (λ k. wrong_at k f) is ∙ none);
    line = read.line ∙ fine.line;
    column = read.column ∙ ap (λ n. n + 1) fine.column;
  }

  pub after_number : {low high n : ℕ} {next : Fields} → TakesField at (decimal n) next × Between low high n → form.kind_at c ≡ Some (number low high) → ltb high (2 ^ 64) ≡ true → FineTo form i (c + 1) fs next
  after_number {low} {high} {n} read is few = after read.0 is (number_fine low high n read.1 (ltb-true high _ few))

  pub after_money : {z : ℤ} {next : Fields} → TakesField at (signed_decimal z) next × MoneyFits z → form.kind_at c ≡ Some (amount 1000000) → FineTo form i (c + 1) fs next
  after_money {z} read is = after read.0 is (amount_in_range z read.1.low read.1.high)

  there : (x : FileRefusal) (n : ℕ) → x ≡ wrong n at.line at.column → wrong n i c ≡ x
  there x n e = ap₂ (wrong n) (sym fine.line) (sym fine.column) ∙ sym e

  pub wrong_there : {kind : FieldKind} {x : FileRefusal} → IsWrong kind at x → form.kind_at c ≡ Some kind → (left at ≡ [] → c ≤ form.least) → fields_refusal form i 1 fs ≡ Some x
  wrong_there {kind} {x} w is need = fine.same ∙ wrong_first form i c w.number kind (left at) is w.is need ∙ ap Some (there x w.number w.there)

  pub surplus_there : {x : FileRefusal} → (0 < length (left at)) × (x ≡ wrong 29 at.line at.column) → form.kind_at c ≡ None → fields_refusal form i 1 fs ≡ Some x
  surplus_there {x} h none = fine.same ∙ is_surplus form i c (left at) none h.0 ∙ ap Some (there x 29 h.1)
