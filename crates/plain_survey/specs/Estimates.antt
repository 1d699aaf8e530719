-- A report as the estimate of Horvitz and Thompson (1952), times the scale: over the units taken, the sum of each reading over the unit's share.
use Rattle.std.specs.Prelude.{◌≡◌, ℕ, ◌*◌, ◌<◌, ℤ, pos, ◌*ℤ◌, List, [], length, Some, None, Option, slice_index_or}
use Rattle.outcomes.specs.Trees.{Sample}
use Rattle.outcomes.specs.Estimates.{sample_sumℤ}
use Rattle.design.specs.Design.{Plan}
use Rattle.design.specs.Plans.{Plans, numerator_of, denominator_of, outcome}
use Rattle.plain_survey.specs.States.{PlainRun}
use Rattle.plain_survey.specs.Reports.{Kind, Tally, row_of_reading}
use Rattle.plain_survey.specs.Requests.{Request, kind_in}
use Rattle.plain_survey.specs.Laws.{entry}

-- c times the share num / den is the scale times x; so c is the scale times x, over the share
abbrev pub IsExpanded : ℕ → ℕ → ℕ → ℤ → ℤ → Type 0
IsExpanded scale num den x c = c *ℤ pos num ≡ pos (scale * den) *ℤ x

-- for each unit there is a whole number that, times the unit's prescribed share, is the scale times x k, and the sum of these numbers over the
-- units taken is the estimate
pub record HorvitzThompson (p : Plan) (units scale : ℕ) (u : Sample) (x : ℕ → ℤ) (estimate : ℤ) : Type 0 where
  pub expanded : ℕ → ℤ
  pub exact : (k : ℕ) → k < units → IsExpanded scale (numerator_of p k) (denominator_of p k) (x k) (expanded k)
  pub summed : estimate ≡ sample_sumℤ units expanded u

-- so it is of each entry, by what the readings of the units have there, of the run that has come to its outcome
abbrev pub Estimates : {R : Type 0} → Kind R → Plans → Option PlainRun → List R → ℕ → List ℤ → Type 0
Estimates kind P None readings scale entries = ⊥
Estimates kind P (Some r) readings scale entries =
    (i : ℕ) → i < kind.width
    → HorvitzThompson (P r.list r.n) (length r.list) scale (outcome r.tree) (λ k. entry (row_of_reading kind readings k) i) (entry entries i)

-- the entries of the total n
abbrev pub entries_at : List Tally → ℕ → List ℤ
entries_at totals n = (slice_index_or totals n (record { entries = []; additions = 0 })).entries

-- so it is of the total into which a report is asked for
abbrev pub EstimatesFor : Request → Plans → Option PlainRun → ℕ → List Tally → Type 0
EstimatesFor q P run scale totals = Estimates (kind_in q) P run q.readings scale (entries_at totals q.into)
