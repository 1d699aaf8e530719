-- The laws of a survey, as statements: shares are exact at any time; at first they are the prescribed ones, and reports are right on the average.
use Rattle.std.specs.Prelude.{◌≡◌, ◌↔◌, T, ℕ, ◌*◌, ◌<◌, ℤ, pos, ◌*ℤ◌, List, length, replicate, Some, None, Option, slice_index_or}
use Rattle.outcomes.specs.Sums.{sumℤ}
use Rattle.outcomes.specs.Trees.{Tree, Sample, Share, Always, weight, expectℤ}
use Rattle.outcomes.specs.Estimates.{sample_sumℤ}
use Rattle.design.specs.Lists.{first}
use Rattle.design.specs.Design.{Plan, Run}
use Rattle.design.specs.Plans.{Plans, tree_of, denominator_of, share_of}
use Rattle.design.specs.declared.row.Row.{Row}
use Rattle.plain_survey.specs.States.{PlainRun}
use Rattle.plain_survey.specs.Calls.{in_every, scale, weight_in, share_in, share_now}
use Rattle.plain_survey.specs.Reports.{Kind, unlawful_at, row_of_reading, added, report_of}

-- the run of a plan that accepts, where the present tree is t
abbrev pub run_at : Plan → List Row → Tree Sample → Run
run_at p list t = record { tree = t; units = length list; denominator = denominator_of p }

-- over all ways in which the remaining throws can fall, the share of each unit of the list is exact: its numerator times the total weight is
-- its denominator times the unit's inclusion weight
abbrev pub ExactShares : Plans → Option PlainRun → Type 0
ExactShares P None = Unit {0}
ExactShares P (Some r) = (k : ℕ) → k < length r.list → Share k (share_now P r k).0 (share_now P r k).1 r.tree

-- directly after an accepted start, the share of each unit is the prescribed one
abbrev pub FirstShares : Plan → List Row → Type 0
FirstShares p list = (k : ℕ) → k < length list → share_in (denominator_of p k) (tree_of p) k ≡ share_of p k

-- the entry i, and the total of the entries i of all units' rows
abbrev pub entry : List ℤ → ℕ → ℤ
entry entries i = slice_index_or entries i (pos 0)

abbrev pub true_total : ℕ → (ℕ → List ℤ) → ℕ → ℤ
true_total units rows i = sumℤ units (λ k. entry (rows k) i)

-- an entry that is added up is the sum, over the units taken, of weight times the number of the unit's row
abbrev pub EachEntryAdded : Type 0
EachEntryAdded = (units : ℕ) (u : Sample) (weight : ℕ → ℕ) (rows : ℕ → List ℤ) (width : ℕ) → ((k : ℕ) → k < units → length (rows k) ≡ width) → (i : ℕ) → i < width
    → entry (added units u weight rows (replicate width (pos 0))) i ≡ sample_sumℤ units (λ k. pos (weight k) *ℤ entry (rows k) i) u

-- the averages law, for any number of entries and rows with as many: what the outcomes' reports leave in an entry, each times its outcome's
-- weight, adds up to total weight times scale times the true total
abbrev pub FairTotals : Plan → List Row → Type 0
FairTotals p list =
    (width : ℕ) (rows : ℕ → List ℤ) → ((k : ℕ) → k < length list → length (rows k) ≡ width) → (i : ℕ) → i < width
    → expectℤ (λ u. entry (added (length list) u (weight_in p list) rows (replicate width (pos 0))) i) (tree_of p)
    ≡ pos (weight (tree_of p) * scale p list) *ℤ true_total (length list) rows i

-- directly after an accepted start: shares are the prescribed ones, and reports are right on the average
pub record FairStart (p : Plan) (list : List Row) : Type 0 where
  pub shares : FirstShares p list
  pub totals : FairTotals p list

-- the same of readings of a kind, where they are lawful and one for each unit, and of what a report of each outcome leaves
abbrev pub FairReport : {R : Type 0} → Kind R → Plans → PlainRun → List R → Type 0
FairReport kind P r readings =
    length readings ≡ length r.list → first (length readings) (unlawful_at kind readings) ≡ None → (i : ℕ) → i < kind.width
    → expectℤ (λ u. entry (report_of kind P r u readings).entries i) r.tree
    ≡ pos (weight r.tree * scale (P r.list r.n) r.list) *ℤ true_total (length r.list) (row_of_reading kind readings) i

-- taken answers yes exactly where the unit is in every outcome
abbrev pub InEveryExactly : Type 0
InEveryExactly = (k : ℕ) (t : Tree Sample) → T (in_every k t) ↔ Always k t
