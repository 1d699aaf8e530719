-- Two-stage drawing over any two designs: the first runs on the clusters, and the second on each taken cluster in order.
use Rattle.std.specs.Prelude.{ℕ, ◌*◌, ◌/◌, ◌%◌, ◌^◌, Bool, cond, not, ◌||◌, List, [], ◌∷◌, map, length, Some, None, Option, ◌==◌, nat_lt, slice_index}
use Rattle.outcomes.specs.Trees.{Tree, Sample, bind}
use Rattle.design.specs.Faults.{Refusal, first_of, refused_if, refused_at, refusal_passed_up}
use Rattle.design.specs.Lists.{row_at, total, first, list_refusal}
use Rattle.design.specs.Design.{Plan, refuses, accepts, Run, plan_of}
use Rattle.design.specs.declared.row.Row.{Row}
use Rattle.parts.specs.Parts.{Part, same_cluster, bounds, parts, place_of}
use Rattle.parts.specs.Orders.{lower_cluster, fall_refusal}
use Rattle.design.specs.Plans.{Plans, nothing, tree_of, numerator_of, denominator_of}
use Rattle.parts.specs.Series.{series, chosen, numerators, denominators, part_refusal}

-- the clusters of a list, each with the sample size m
abbrev pub clusters : ℕ → List Row → List Part
clusters m list = parts same_cluster (λ _. m) list

-- the row for a cluster with these rows: its stratum, its cluster and the sum of its sizes
abbrev pub row_for : List Row → Row
row_for rows = record { stratum = (row_at rows 0).stratum; cluster = (row_at rows 0).cluster; size = total rows }

abbrev pub cluster_row : Part → Row
cluster_row p = row_for p.rows

-- what the first design does with the list of clusters and n / m
abbrev pub first_plan : Plans → List Part → ℕ → ℕ → Plan
first_plan A ps m n = A (map cluster_row ps) (n / m)

-- the tree t of the first design, then the second design on each cluster that its outcome holds
abbrev pub stages : Plans → List Part → Tree Sample → Tree Sample
stages B ps t = bind t (λ c. series B (chosen c 0 ps) nothing)

-- the numbers of a unit are the products of its cluster's in the first stage and its own in the second
abbrev pub stage_numerators : Plan → Plans → List Part → ℕ → ℕ
stage_numerators a B ps k = numerator_of a (place_of 0 ps k) * numerators B ps k

abbrev pub stage_denominators : Plan → Plans → List Part → ℕ → ℕ
stage_denominators a B ps k = denominator_of a (place_of 0 ps k) * denominators B ps k

-- ---- refusals
-- what within refuses: 0, or over 1,024
abbrev pub within_refusal : ℕ → Option Refusal
within_refusal m = refused_if (m == 0 || nat_lt 1024 m) 9

-- the first row of the 129th cluster, if there is one; `firsts` are the first rows of the clusters, and the row past the list
abbrev pub cluster_count_refusal : List ℕ → Option Refusal
cluster_count_refusal firsts = refused_at (cond (nat_lt 129 (length firsts)) (Some (slice_index firsts 128)) None) 15

-- what begin refuses before it asks the designs below: no number set; a list or a sample size that any design with sizes refuses; the
-- first row whose pair of stratum, then cluster, falls; n no multiple of m; too many clusters
abbrev pub clusters_refusal : ℕ → List Row → ℕ → Option Refusal
clusters_refusal m list n =
    first_of (refused_if (m == 0) 10
    ∷ list_refusal list n
    ∷ fall_refusal lower_cluster list
    ∷ refused_if (not (n % m == 0)) 14
    ∷ cluster_count_refusal (bounds same_cluster list) ∷ [])

-- the first design's refusal, at the first row of the cluster that it names
abbrev pub first_refusal : List ℕ → Plan → Option Refusal
first_refusal firsts (refuses f) = Some (refusal_passed_up (slice_index firsts f.row) f)
first_refusal firsts (accepts num run) = None

-- the denominator of row k passes 10^15
abbrev pub too_large : (ℕ → ℕ) → ℕ → Bool
too_large denominator k = nat_lt (10 ^ 15) (denominator k)

-- the first row whose product of denominators passes 10^15
abbrev pub product_refusal : Plan → Plans → List Part → ℕ → Option Refusal
product_refusal a B ps units = refused_at (first units (too_large (stage_denominators a B ps))) 16

-- ---- the plan
abbrev pub stages_run : Plan → Plans → List Part → ℕ → Run
stages_run a B ps units = record { tree = stages B ps (tree_of a); units = units; denominator = stage_denominators a B ps }

-- the plan where the clusters are ps, and a is what the first design does with them; after the layer's own refusals come the first
-- design's, those of the second on every cluster in order, and the products
abbrev pub stages_plan : ℕ → Plans → List Row → ℕ → List Part → Plan → Plan
stages_plan m B list n ps a =
    plan_of (first_of (clusters_refusal m list n
    ∷ first_refusal (bounds same_cluster list) a
    ∷ part_refusal B ps
    ∷ product_refusal a B ps (length list) ∷ []))
    (stage_numerators a B ps) (stages_run a B ps (length list))

-- the plan of two-stage drawing over designs with the plans A and B
abbrev pub two_stage_plan : ℕ → Plans → Plans → Plans
two_stage_plan m A B list n = stages_plan m B list n (clusters m list) (first_plan A (clusters m list) m n)
