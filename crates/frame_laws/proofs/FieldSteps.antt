-- The refusal of a line, field by field, and that a line of values in range is not refused.
use Rattle.std.proofs.Common.{◌≡◌, ℕ, ◌+◌, ◌<◌, ◌≤◌, ◌^◌, leb, List, [], ◌∷◌, length, Some, None, ap, ◌∙◌, arith}
use Rattle.std.specs.Fmt.{decimal}
use Rattle.std.specs.List.{All}
use Rattle.std.proofs.lemmas.Bool.{cond-true, cond-false, le-leb, lt-leb}
use Rattle.std.proofs.lemmas.List.Elements.{All-head, All-tail}
use Rattle.design.specs.Faults.{or_else}
use Rattle.frame_file.specs.declared.frame.Header.{Header}
use Rattle.frame_file.specs.declared.frame.FrameUnit.{FrameUnit}
use Rattle.frame_file.specs.Fields.{Form, number, wrong_at, wrong_in, header_form, takes_form, unit_form}
use Rattle.frame_file.specs.Faults.{wrong}
use Rattle.frame_file.specs.Refusals.{fields_refusal, wrong_here}
use Rattle.frame_file.specs.Written.{Between, header_fields, takes_fields, unit_fields, HeaderFits, TakesFit, UnitFits}
use Rattle.frame_laws.proofs.Amounts.{amount_in_range, number_in_range}

-- ---- one field
-- a field that has nothing wrong in its column
pub goes_on : (form : Form) (i c : ℕ) (f : List ℕ) (fs : List (List ℕ)) → wrong_at (form.kind_at c) f ≡ None
    → fields_refusal form i c (f ∷ fs) ≡ fields_refusal form i (c + 1) fs
goes_on form i c f fs fine = ap (λ o. or_else (wrong_here i c o) (fields_refusal form i (c + 1) fs)) fine

-- one that has
pub stops_here : (form : Form) (i c n : ℕ) (f : List ℕ) (fs : List (List ℕ)) → wrong_at (form.kind_at c) f ≡ Some n
    → fields_refusal form i c (f ∷ fs) ≡ Some (wrong n i c)
stops_here form i c n f fs is = ap (λ o. or_else (wrong_here i c o) (fields_refusal form i (c + 1) fs)) is

-- none where one has to be
pub is_missing : (form : Form) (i c : ℕ) → c ≤ form.least → fields_refusal form i c [] ≡ Some (wrong 29 i c)
is_missing form i c short = cond-true (leb c form.least) _ None (le-leb c form.least short)

-- none where none has to be
pub is_done : (form : Form) (i c : ℕ) → form.least < c → fields_refusal form i c [] ≡ None
is_done form i c past = cond-false (leb c form.least) (Some (wrong 29 i c)) None (lt-leb c form.least past)

-- one past the last column
pub is_surplus : (form : Form) (i c : ℕ) (fs : List (List ℕ)) → form.kind_at c ≡ None → 0 < length fs → fields_refusal form i c fs ≡ Some (wrong 29 i c)
is_surplus form i c [] none some = absurd (omega arith)
is_surplus form i c (f ∷ fs) none some = stops_here form i c 29 f fs (ap (λ k. wrong_at k f) none)

-- ---- a field of a kind
pub number_fine : (low high n : ℕ) → Between low high n → high < 2 ^ 64 → wrong_in (number low high) (decimal n) ≡ None
number_fine low high n fits few = number_in_range low high n fits.0 fits.1 (omega (arith, fits.1))

pub take_kind : (c : ℕ) → c ≤ 64 → takes_form.kind_at c ≡ Some (number 1 1024)
take_kind c few = cond-true (leb c 64) _ None (le-leb c 64 few)

pub no_take_kind : (c : ℕ) → 64 < c → takes_form.kind_at c ≡ None
no_take_kind c many = cond-false (leb c 64) (Some (number 1 1024)) None (lt-leb c 64 many)

-- ---- whole lines
-- no field from column c on has anything wrong, and there are enough
abbrev pub AllFine : Form → ℕ → List (List ℕ) → Type 0
AllFine form c [] = form.least < c
AllFine form c (f ∷ fs) = (wrong_at (form.kind_at c) f ≡ None) × AllFine form (c + 1) fs

pub all_fine : (form : Form) (i c : ℕ) (fs : List (List ℕ)) → AllFine form c fs → fields_refusal form i c fs ≡ None
all_fine form i c [] fine = is_done form i c fine
all_fine form i c (f ∷ fs) fine = goes_on form i c f fs fine.0 ∙ all_fine form i (c + 1) fs fine.1

pub header_fine : (i : ℕ) (h : Header) → HeaderFits h → fields_refusal header_form i 1 (header_fields h) ≡ None
header_fine i h fits = all_fine header_form i 1 (header_fields h) (
  number_fine 1 1024 h.n fits.n (omega arith),
  (
    number_fine 1 1024 h.m fits.m (omega arith),
    (number_fine 1 4294967295 h.seed fits.seed (omega arith), omega arith),
  ),
)

pub unit_fine : (i : ℕ) (u : FrameUnit) → UnitFits u → fields_refusal unit_form i 1 (unit_fields u) ≡ None
unit_fine i u fits = all_fine unit_form i 1 (unit_fields u) (
  number_fine 0 65535 u.row.stratum (omega arith, fits.stratum) (omega arith),
  (
    number_fine 0 65535 u.row.cluster (omega arith, fits.cluster) (omega arith),
    (
      number_fine 1 10000 u.row.size fits.size (omega arith),
      (
        amount_in_range u.money fits.money.low fits.money.high,
        (number_fine 0 5 u.cell.at (omega arith, fits.cell) (omega arith), omega arith),
      ),
    ),
  ),
)

each_take_fine : (c : ℕ) (ts : List ℕ) → All (Between 1 1024) ts → c + length ts ≤ 65 → 1 < c + length ts → AllFine takes_form c (takes_fields ts)
each_take_fine c [] each few some = omega arith
each_take_fine c (t ∷ ts) each few some =
    let fits = All-head (Between 1 1024) t ts each in (
      ap (λ k. wrong_at k (decimal t)) (take_kind c (omega arith)) ∙ number_fine 1 1024 t fits (omega arith),
      each_take_fine (c + 1) ts (All-tail (Between 1 1024) t ts each) (omega arith) (omega arith),
    )

pub takes_fine : (i : ℕ) (ts : List ℕ) → TakesFit ts → fields_refusal takes_form i 1 (takes_fields ts) ≡ None
takes_fine i ts fits = all_fine takes_form i 1 (takes_fields ts) (each_take_fine 1 ts fits.each (omega (arith, fits.count)) (omega (arith, fits.count)))
