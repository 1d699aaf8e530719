-- The averages law: what reports leave, on the average over the outcomes.
use Rattle.std.specs.Prelude.{All}
use Rattle.std.proofs.Common.{◌≡◌, refl, ℕ, zero, suc, ◌*◌, ◌<◌, Bool, true, false, cond, ℤ, pos, ◌+ℤ◌, ◌*ℤ◌, List, [], ◌∷◌, length, sym, ap, subst, ◌∙◌, not, arith, replicate}
use Rattle.std.proofs.lemmas.List.{length-replicate}
use mathlib.Core.Path.{fun_ext}
use Rattle.std.proofs.Math.IntN.{+ℤ_idr}
use Rattle.outcomes.specs.Trees.{Sample, weight, expectℤ}
use Rattle.outcomes.specs.Estimates.{sample_sumℤ}
use Rattle.outcomes.proofs.Estimates.{fair_totalℤ}
use Rattle.design.specs.Design.{accepts, Run, Sound}
use Rattle.design.proofs.Firsts.{first_none}
use Rattle.design.specs.Plans.{Plans, tree_of}
use Rattle.design.specs.declared.row.Row.{Row}
use Rattle.totals.specs.Rows.{raised}
use Rattle.plain_survey.specs.States.{PlainRun}
use Rattle.plain_survey.specs.Calls.{scale, weight_in}
use Rattle.plain_survey.specs.Reports.{Kind, unlawful_at, row_of_reading, added, report_of}
use Rattle.plain_survey.specs.Laws.{EachEntryAdded, entry, true_total, FairTotals, FairReport}

-- ---- the entries
raised_length : (w : ℕ) (es row : List ℤ) → length row ≡ length es → length (raised w es row) ≡ length es
raised_length w [] row h = refl
raised_length w (e ∷ es) [] h = absurd (omega (arith, h))
raised_length w (e ∷ es) (x ∷ row) h = ap suc (raised_length w es row (omega (arith, h)))

zeros_entry : (width i : ℕ) → i < width → entry (replicate width (pos 0)) i ≡ pos 0
zeros_entry zero i l = absurd (omega (arith, l))
zeros_entry (suc width) zero l = refl
zeros_entry (suc width) (suc i) l = zeros_entry width i (omega (arith, l))

raised_entry : (w : ℕ) (es row : List ℤ) (i : ℕ) → length row ≡ length es → i < length es → entry (raised w es row) i ≡ entry es i +ℤ pos w *ℤ entry row i
raised_entry w [] row i h l = absurd (omega (arith, l))
raised_entry w (e ∷ es) [] i h l = absurd (omega (arith, h))
raised_entry w (e ∷ es) (x ∷ row) zero h l = refl
raised_entry w (e ∷ es) (x ∷ row) (suc i) h l = raised_entry w es row i (omega (arith, h)) (omega (arith, l))

-- the rows of the first k units have so many numbers
abbrev pub Wide : ℕ → (ℕ → List ℤ) → ℕ → Type 0
Wide k rows width = (j : ℕ) → j < k → length (rows j) ≡ width

added_length : (k : ℕ) (u : Sample) (w : ℕ → ℕ) (rows : ℕ → List ℤ) (width : ℕ) → Wide k rows width → length (added k u w rows (replicate width (pos 0))) ≡ width
added_length zero u w rows width wide = length-replicate width (pos 0)
added_length (suc k) u w rows width wide = go (u k) (added k u w rows (replicate width (pos 0))) (added_length k u w rows width (λ j l. wide j (omega arith)))
  where
    go : (b : Bool) (now : List ℤ) → length now ≡ width → length (cond b (raised (w k) now (rows k)) now) ≡ width
    go true now h = raised_length (w k) now (rows k) (wide k (omega arith) ∙ sym h) ∙ h
    go false now h = h

pub each_entry_added : EachEntryAdded
each_entry_added zero u w rows width wide i l = zeros_entry width i l
each_entry_added (suc k) u w rows width wide i l =
    let fewer : Wide k rows width = λ j m. wide j (omega arith) in
    go (u k) (added k u w rows (replicate width (pos 0))) (added_length k u w rows width fewer) (each_entry_added k u w rows width fewer i l)
  where
    go : (b : Bool) (now : List ℤ) → length now ≡ width → entry now i ≡ sample_sumℤ k (λ j. pos (w j) *ℤ entry (rows j) i) u
        → entry (cond b (raised (w k) now (rows k)) now) i ≡ sample_sumℤ k (λ j. pos (w j) *ℤ entry (rows j) i) u +ℤ cond b (pos (w k) *ℤ entry (rows k) i) (pos 0)
    go true now h e = raised_entry (w k) now (rows k) i (wide k (omega arith) ∙ sym h) (omega (arith, h, l)) ∙ ap (λ z. z +ℤ pos (w k) *ℤ entry (rows k) i) e
    go false now h e = e ∙ sym (+ℤ_idr _)

-- ---- the law
pub fair_totals : (list : List Row) (num : ℕ → ℕ) (run : Run) → Sound list num run
    → ((k : ℕ) → k < length list → weight_in (accepts num run) list k * num k ≡ scale (accepts num run) list * run.denominator k)
    → FairTotals (accepts num run) list
fair_totals list num run s inverse width rows wide i l =
    let units = length list in
    let p = accepts num run in
    let w = weight_in p list in
    ap (λ X. expectℤ X run.tree) (fun_ext (λ u. each_entry_added units u w rows width wide i l))
    ∙ fair_totalℤ run.tree units (scale p list) num run.denominator w (λ k. entry (rows k) i) s.fair (λ k m. omega (arith, s.prescribed k m)) inverse

-- ---- the same of readings of a kind
pub lawful_row : {R : Type 0} (kind : Kind R) (readings : List R) → All (λ x. kind.is_lawful x ≡ true → length (kind.row x) ≡ kind.width) readings
    → (k : ℕ) → k < length readings → unlawful_at kind readings k ≡ false → length (row_of_reading kind readings k) ≡ kind.width
lawful_row kind [] rows k l e = absurd (omega (arith, l))
lawful_row kind (x ∷ more) rows zero l e = rows zero x (omega arith) (yes (kind.is_lawful x) e)
  where
    yes : (b : Bool) → not b ≡ false → b ≡ true
    yes true h = refl
    yes false h = sym h
lawful_row kind (x ∷ more) rows (suc k) l e = lawful_row kind more (λ j d m. rows (suc j) d (omega (arith, m))) k (omega (arith, l)) e

pub fair_report : {R : Type 0} (kind : Kind R) (P : Plans) (r : PlainRun) → r.tree ≡ tree_of (P r.list r.n) → FairTotals (P r.list r.n) r.list
    → (readings : List R) → All (λ x. kind.is_lawful x ≡ true → length (kind.row x) ≡ kind.width) readings → FairReport kind P r readings
fair_report kind P r at fair readings rows long lawful i l =
    let none = first_none (length readings) (unlawful_at kind readings) lawful in
    subst
    (λ x. expectℤ (λ u. entry (report_of kind P r u readings).entries i) x ≡ pos (weight x * scale (P r.list r.n) r.list) *ℤ true_total (length r.list) (row_of_reading kind readings) i)
    (sym at)
    (fair kind.width (row_of_reading kind readings) (λ k m. let q : k < length readings = omega (arith, m, long) in lawful_row kind readings rows k q (none k q)) i l)
