-- Stratification over any design: the design runs on each stratum in list order, with that stratum's take.
use Rattle.std.specs.Prelude.{ℕ, not, ◌||◌, List, [], ◌∷◌, length, is_some, Option, ◌==◌, nat_eq, nat_lt, slice_index}
use Rattle.outcomes.specs.Sums.{sum}
use Rattle.design.specs.Faults.{Refusal, or_else, first_of, refused_if}
use Rattle.design.specs.Lists.{first, count_refusal}
use Rattle.design.specs.Design.{Run, plan_of}
use Rattle.design.specs.declared.row.Row.{Row}
use Rattle.parts.specs.Parts.{Part, same_stratum, parts}
use Rattle.parts.specs.Orders.{lower_stratum, fall_refusal}
use Rattle.design.specs.Plans.{Plans, nothing}
use Rattle.parts.specs.Series.{series, numerators, denominators, part_refusal}

-- the take of stratum j
abbrev pub take_of : List ℕ → ℕ → ℕ
take_of takes j = slice_index takes j

-- the strata of a list, each with its take
abbrev pub strata : List ℕ → List Row → List Part
strata takes list = parts same_stratum (take_of takes) list

abbrev pub total_take : List ℕ → ℕ
total_take takes = sum (length takes) (take_of takes)

-- what allot refuses: no takes, or over 64; a take of 0
abbrev pub allot_refusal : List ℕ → Option Refusal
allot_refusal takes =
    first_of (refused_if (length takes == 0 || nat_lt 64 (length takes)) 7
    ∷ refused_if (is_some (first (length takes) (λ j. nat_eq (take_of takes j) 0))) 8 ∷ [])

-- what begin refuses before it asks the design below: no takes set; an empty list or one of too many rows; the first row whose stratum
-- falls; strata not as many as takes; takes that do not add up to n
abbrev pub strata_refusal : List ℕ → List Row → ℕ → Option Refusal
strata_refusal takes list n =
    first_of (refused_if (length takes == 0) 10
    ∷ count_refusal list
    ∷ fall_refusal lower_stratum list
    ∷ refused_if (not (length (strata takes list) == length takes)) 12
    ∷ refused_if (not (total_take takes == n)) 13 ∷ [])

-- the design's trees over the parts, one after another
abbrev pub series_run : Plans → List Part → ℕ → Run
series_run B ps units = record { tree = series B ps nothing; units = units; denominator = denominators B ps }

-- the plan of stratification over a design with the plans B; after its own refusals come those of the strata, in order
abbrev pub stratified_plan : Plans → List ℕ → Plans
stratified_plan B takes list n =
    plan_of (or_else (strata_refusal takes list n) (part_refusal B (strata takes list)))
    (numerators B (strata takes list)) (series_run B (strata takes list) (length list))
