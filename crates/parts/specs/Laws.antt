-- The laws of parts and of a design's trees over them, as statements.
use Rattle.std.specs.Prelude.{◌≡◌, ℕ, ◌+◌, ◌*◌, ◌<◌, Bool, true, ◌↔◌, List, length}
use Rattle.outcomes.specs.Trees.{Tree, Sample, Share, HasWays, bind}
use Rattle.outcomes.specs.Listing.{Leads}
use Rattle.design.specs.Lists.{row_at}
use Rattle.design.specs.declared.row.Row.{Row}
use Rattle.parts.specs.Parts.{parts, place_of}
use Rattle.design.specs.Plans.{Plans, SoundPlans, nothing}
use Rattle.parts.specs.Series.{series, chosen, numerators, denominators}
use Rattle.parts.specs.Bounds.{AllAccepted}
use Rattle.parts.specs.Roads.{PartByPart}

-- the parts are the runs of rows that are alike: two rows in a row are in one part exactly if they are alike
abbrev pub PartsAreRuns : Type 0
PartsAreRuns = (alike : Row → Row → Bool) (sample : ℕ → ℕ) (list : List Row) (k : ℕ) → k + 1 < length list
    → (place_of 0 (parts alike sample list) k ≡ place_of 0 (parts alike sample list) (k + 1)) ↔ (alike (row_at list k) (row_at list (k + 1)) ≡ true)

-- throws lead through the series of the chosen parts exactly where they go through each of those parts in turn, and to the union of its outcomes
abbrev pub SeriesRoads : Type 0
SeriesRoads = (B : Plans) (alike : Row → Row → Bool) (sample : ℕ → ℕ) (list : List Row) (c : Sample) (ds : List ℕ) (u : Sample)
    → Leads (series B (chosen c 0 (parts alike sample list)) nothing) ds u ↔ PartByPart B (chosen c 0 (parts alike sample list)) ds u

-- in the series of all parts, each unit has the share that the design gives it in its part
abbrev pub SeriesFair : Type 0
SeriesFair = (B : Plans) → SoundPlans B
    → (alike : Row → Row → Bool) (sample : ℕ → ℕ) (list : List Row) → AllAccepted B (parts alike sample list) → (k : ℕ) → k < length list
    → Share k (numerators B (parts alike sample list) k) (denominators B (parts alike sample list) k) (series B (parts alike sample list) nothing)

-- where the parts themselves are drawn by a tree t, a unit's share is that of its part times the one that the design gives it there
abbrev pub StagesFair : Type 0
StagesFair = (B : Plans) → SoundPlans B
    → (alike : Row → Row → Bool) (sample : ℕ → ℕ) (list : List Row) → AllAccepted B (parts alike sample list) → (k : ℕ) → k < length list
    → (t : Tree Sample) (num den : ℕ) → HasWays t → Share (place_of 0 (parts alike sample list) k) num den t
    → Share k (num * numerators B (parts alike sample list) k) (den * denominators B (parts alike sample list) k)
    (bind t (λ c. series B (chosen c 0 (parts alike sample list)) nothing))
