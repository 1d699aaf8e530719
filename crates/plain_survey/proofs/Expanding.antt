-- An accepted report is the estimate of Horvitz and Thompson, times the scale.
use Rattle.std.proofs.Common.{◌≡◌, refl, ℕ, ◌*◌, ◌<◌, T, true, false, not, eqb, eqb→eq, ℤ, pos, ◌*ℤ◌, List, length, Some, None, Ok, Option, sym, ap, subst, arith}
use Rattle.std.specs.Prelude.{All}
use Rattle.std.proofs.lemmas.Bool.{not-false}
use borrow.Author.Differences.{up, down, same_in, product_is}
use Rattle.design.proofs.Firsts.{first_none, neither, no_row, not_refused}
use Rattle.design.specs.Design.{Plan, refuses, accepts, SoundPlan}
use Rattle.design.specs.Faults.{Refusal, refused_if}
use Rattle.design.specs.Lists.{first}
use Rattle.design.specs.Plans.{Plans, numerator_of, denominator_of, outcome}
use Rattle.design.specs.declared.row.Row.{Row}
use Rattle.weights.proofs.Scales.{weights_exact}
use Rattle.plain_survey.specs.States.{PlainRun}
use Rattle.plain_survey.specs.Calls.{answer, scale, start_refusal, weight_in}
use Rattle.plain_survey.specs.Reports.{Kind, Tally, is_finished, report_answer, report_of, report_refusal, report_tally, reported, row_of_reading, unlawful_at, unless}
use Rattle.plain_survey.specs.Laws.{entry}
use Rattle.plain_survey.specs.Estimates.{Estimates, IsExpanded}
use Rattle.plain_survey.proofs.Averages.{each_entry_added, lawful_row}

-- a weight whose product with the numerator is the scale times the denominator expands a number
expands : (w num s den : ℕ) (x : ℤ) → w * num ≡ s * den → IsExpanded s num den x (pos w *ℤ x)
expands w num s den x e =
    same_in (pos w *ℤ x *ℤ pos num) (pos (s * den) *ℤ x)
    (omega (
      arith,
      product_is (pos w *ℤ x) (pos num),
      ap (λ v. v * num) (product_is (pos w) x).0,
      ap (λ v. v * num) (product_is (pos w) x).1,
      product_is (pos (s * den)) x,
      ap (λ v. v * up x) e,
      ap (λ v. v * down x) e,
    ))

-- the weights of an accepted start are such
weights_expand : (list : List Row) (p : Plan) → SoundPlan list p → start_refusal p list ≡ None
    → (k : ℕ) → k < length list → weight_in p list k * numerator_of p k ≡ scale p list * denominator_of p k
weights_expand list (refuses f) s e = absurd (let z : ◌≡◌ {A = ℕ} 0 1 = cc in (let y : ⊥ = omega arith in y))
weights_expand list (accepts num run) s e = λ k l. weights_exact (length list) num run.denominator (λ j m. omega (arith, s.prescribed j m)) k l

-- a report that leaves these entries, with the readings lawful and one for each unit
pub estimates : {R : Type 0} (kind : Kind R) (P : Plans) (r : PlainRun) (readings : List R) → SoundPlan r.list (P r.list r.n) → start_refusal (P r.list r.n) r.list ≡ None
    → All (λ x. kind.is_lawful x ≡ true → length (kind.row x) ≡ kind.width) readings → length readings ≡ length r.list → first (length readings) (unlawful_at kind readings) ≡ None
    → Estimates kind P (Some r) readings (scale (P r.list r.n) r.list) (report_of kind P r (outcome r.tree) readings).entries
estimates kind P r readings sound started rows long lawful i l =
    let p = P r.list r.n in
    let w = weight_in p r.list in
    let none = first_none (length readings) (unlawful_at kind readings) lawful in
    record {
      expanded = λ k. pos (w k) *ℤ entry (row_of_reading kind readings k) i;
      exact = λ k m. expands (w k) (numerator_of p k) (scale p r.list) (denominator_of p k) (entry (row_of_reading kind readings k) i) (weights_expand r.list p sound started k m);
      summed = each_entry_added (length r.list) (outcome r.tree) w (row_of_reading kind readings) kind.width
          (λ k m. let q : k < length readings = omega (arith, m, long) in lawful_row kind readings rows k q (none k q)) i l;
    }

-- ---- of an accepted report
-- an answer that is a value was not refused, and the value is the one that is given
unrefused_value : {A : Type 0} (o : Option Refusal) (a b : A) → answer o a ≡ Ok b → (o ≡ None) × (a ≡ b)
unrefused_value None a b e = (refl, cc)
unrefused_value (Some f) a b e = absurd (let z : ◌≡◌ {A = ℕ} 0 1 = cc in (let y : ⊥ = omega arith in y))

as_many : (m n : ℕ) → not (eqb m n) ≡ false → m ≡ n
as_many m n e = eqb→eq m n (subst T (sym (not-false (eqb m n) e)) tt)

-- so its total has estimates, at the scale that it answers
pub report_estimates : {R : Type 0} (kind : Kind R) (P : Plans) (run : Option PlainRun) (readings : List R) (t : Tally) (scaled n : ℕ)
    → ((r : PlainRun) → run ≡ Some r → SoundPlan r.list (P r.list r.n) × (start_refusal (P r.list r.n) r.list ≡ None))
    → All (λ x. kind.is_lawful x ≡ true → length (kind.row x) ≡ kind.width) readings
    → report_answer kind P run readings ≡ Ok (scaled, n) → Estimates kind P run readings scaled (report_tally kind P run readings t).entries
report_estimates kind P None readings t scaled n sound rows e = absurd (let z : ◌≡◌ {A = ℕ} 0 1 = cc in (let y : ⊥ = omega arith in y))
report_estimates kind P (Some r) readings t scaled n sound rows e =
    let v = unrefused_value (report_refusal kind r readings) (reported P r) (scaled, n) e in
    let checks = neither (refused_if (not (is_finished r.tree)) 24) _ v.0 in
    let more = neither (refused_if (not (eqb (length readings) (length r.list))) 25) _ checks.1 in
    let long : length readings ≡ length r.list = as_many (length readings) (length r.list) (not_refused _ 25 more.0) in
    let lawful = no_row (first (length readings) (unlawful_at kind readings)) 26 (neither _ None more.1).0 in
    subst (λ s. Estimates kind P (Some r) readings s (report_tally kind P (Some r) readings t).entries) (ap (λ (x : ℕ × ℕ). x.0) v.1)
    (subst (λ o. Estimates kind P (Some r) readings (scale (P r.list r.n) r.list) (unless o (report_of kind P r (outcome r.tree) readings) t).entries) (sym v.0)
    (estimates kind P r readings (sound r refl).0 (sound r refl).1 rows long lawful))
