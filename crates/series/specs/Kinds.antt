-- The two kinds of parts, by the words of lists.
use Rattle.std.specs.Prelude.{ℕ, Bool, List, [], ◌∷◌, Option}
use Rattle.design.specs.Faults.{Refusal, first_of}
use Rattle.design.specs.Lists.{count_refusal}
use Rattle.design.specs.declared.row.Row.{Row}
use Rattle.parts.specs.Parts.{same_stratum, same_cluster}
use Rattle.parts.specs.Orders.{lower_stratum, lower_cluster, fall_refusal}
use Rattle.series.specs.declared.kind.PartKind.{PartKind}
use Rattle.series.specs.declared.kind.PartKind.TheVariants.{Stratum, Cluster}

-- what the rows of one part have in common: the stratum, or the pair of stratum and cluster
abbrev pub place : PartKind → Row → ℕ × ℕ
place Stratum r = (r.stratum, 0)
place Cluster r = (r.stratum, r.cluster)

-- two rows belong to one part
abbrev pub alike : PartKind → Row → Row → Bool
alike Stratum = same_stratum
alike Cluster = same_cluster

-- the second row is lower than the first
abbrev pub lower : PartKind → Row → Row → Bool
lower Stratum = lower_stratum
lower Cluster = lower_cluster

-- what keeps a list from being cut: no rows, or too many; the first row that is lower than the row before it
abbrev pub cut_refusal : PartKind → List Row → Option Refusal
cut_refusal kind list = first_of (count_refusal list ∷ fall_refusal (lower kind) list ∷ [])
