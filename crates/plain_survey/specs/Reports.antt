-- What report answers, and what it leaves in the caller's total.
use Rattle.std.specs.Prelude.{ℕ, zero, suc, Bool, true, false, cond, not, ℤ, pos, List, [], ◌∷◌, map, length, replicate, Some, None, Err, Option, Result, ◌==◌, slice_index_or}
use Rattle.outcomes.specs.Sums.{count}
use Rattle.outcomes.specs.Trees.{Tree, finished, branching, Sample}
use Rattle.design.specs.Faults.{Refusal, refusal, refused_if, refused_at, first_of}
use Rattle.design.specs.Lists.{first}
use Rattle.design.specs.Plans.{Plans, outcome}
use Rattle.totals.specs.Rows.{raised}
use Rattle.plain_survey.specs.States.{PlainRun}
use Rattle.plain_survey.specs.Calls.{answer, scale, weight_in}

-- a kind of total: which of its readings are lawful, the row that each means, and how many numbers a row has
pub record Kind (R : Type 0) : Type 0 where
  pub is_lawful : R → Bool
  pub row : R → List ℤ
  pub width : ℕ

-- a total: its entries and the count of additions since it was cleared
pub record Tally : Type 0 where
  pub entries : List ℤ
  pub additions : ℕ

-- the reading k is not lawful; the row of the reading k
abbrev pub unlawful_at : {R : Type 0} → Kind R → List R → ℕ → Bool
unlawful_at kind readings k = not (slice_index_or (map kind.is_lawful readings) k true)

abbrev pub row_of_reading : {R : Type 0} → Kind R → List R → ℕ → List ℤ
row_of_reading kind readings k = slice_index_or (map kind.row readings) k []

-- ---- what a report leaves
-- the entries raised by weight times row for each taken unit among the first `units`
abbrev pub added : ℕ → Sample → (ℕ → ℕ) → (ℕ → List ℤ) → List ℤ → List ℤ
added zero u weight row entries = entries
added (suc k) u weight row entries = cond (u k) (raised (weight k) (added k u weight row entries) (row k)) (added k u weight row entries)

-- whether a tree has come to an outcome, and whether there is a run that has
abbrev pub is_finished : Tree Sample → Bool
is_finished (finished u) = true
is_finished (branching m sub) = false

abbrev pub has_outcome : Option PlainRun → Bool
has_outcome None = false
has_outcome (Some r) = is_finished r.tree

-- the total that a report leaves with the units u taken: it is cleared, and weight and reading of each taken unit are added
abbrev pub report_of : {R : Type 0} → Kind R → Plans → PlainRun → Sample → List R → Tally
report_of kind P r u readings = record {
  entries = added (length r.list) u (weight_in (P r.list r.n) r.list) (row_of_reading kind readings) (replicate kind.width (pos 0));
  additions = count (length r.list) u;
}

-- ---- what report answers
-- no finished run; readings not as many as units; the first unlawful reading
abbrev pub report_refusal : {R : Type 0} → Kind R → PlainRun → List R → Option Refusal
report_refusal kind r readings =
    first_of (refused_if (not (is_finished r.tree)) 24
    ∷ refused_if (not (length readings == length r.list)) 25
    ∷ refused_at (first (length readings) (unlawful_at kind readings)) 26 ∷ [])

-- the scale, and the number of units taken
abbrev pub reported : Plans → PlainRun → ℕ × ℕ
reported P r = (scale (P r.list r.n) r.list, count (length r.list) (outcome r.tree))

abbrev pub report_answer : {R : Type 0} → Kind R → Plans → Option PlainRun → List R → Result (ℕ × ℕ) Refusal
report_answer kind P None readings = Err (refusal 24)
report_answer kind P (Some r) readings = answer (report_refusal kind r readings) (reported P r)

-- refused, the caller's total stays
abbrev pub unless : {A : Type 0} → Option Refusal → A → A → A
unless None new old = new
unless (Some f) new old = old

abbrev pub report_tally : {R : Type 0} → Kind R → Plans → Option PlainRun → List R → Tally → Tally
report_tally kind P None readings t = t
report_tally kind P (Some r) readings t = unless (report_refusal kind r readings) (report_of kind P r (outcome r.tree) readings) t
