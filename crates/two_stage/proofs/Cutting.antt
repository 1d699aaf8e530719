-- A list cut into clusters: which check refuses it.
use Rattle.std.proofs.Common.{◌≡◌, ℕ, suc, ◌+◌, ◌-◌, ◌%◌, ◌<◌, ◌≤◌, true, false, cond, not, eqb, List, [], ◌∷◌, length, get_or, take, drop, Some, None, Option, refl, ap, ◌∙◌, ap₂, arith}
use Rattle.std.proofs.lemmas.Bool.{lt-ltb, le-ltb}
use Rattle.std.proofs.lemmas.List.{get_or-replicate}
use Rattle.design.specs.Faults.{Refusal, refusal_at, or_else, first_of, refused_if, refused_at}
use Rattle.design.specs.Lists.{list_refusal, count_refusal}
use Rattle.design.specs.declared.row.Row.{Row}
use Rattle.design.proofs.Firsts.{neither}
use Rattle.parts.specs.Parts.{Part, bounds, cut, cuts, same_cluster}
use Rattle.parts.specs.Orders.{lower_cluster, fall_refusal}
use Rattle.parts.specs.Running.{Tables, all_parts, sample_of}
use Rattle.parts.proofs.Places.{cut-length}
use Rattle.layers.specs.TwoStage.{clusters, cluster_count_refusal, clusters_refusal}
use Rattle.series.specs.Kinds.{cut_refusal}
use Rattle.series.specs.Tables.{newly_cut}
use Rattle.series.specs.declared.kind.PartKind.TheVariants.{Cluster}
use Rattle.two_stage.specs.Of.{cut_clusters}

module _ (m : ℕ) (list : List Row) (n : ℕ) (some : eqb m 0 ≡ false) (lists : list_refusal list n ≡ None) where
  -- what is left to check: the order, a sample size that is a multiple, and few clusters
  pub left_is : clusters_refusal m list n ≡ first_of (fall_refusal lower_cluster list ∷ refused_if (not (eqb (n % m) 0)) 14 ∷ cluster_count_refusal (bounds same_cluster list) ∷ [])
  left_is =
      let rest = first_of (fall_refusal lower_cluster list ∷ refused_if (not (eqb (n % m) 0)) 14 ∷ cluster_count_refusal (bounds same_cluster list) ∷ []) in
      ap (λ x. or_else (refused_if x 10) (or_else (list_refusal list n) rest)) some ∙ ap (λ (x : Option Refusal). or_else x rest) lists

  module _ (cuts : cut_refusal Cluster list ≡ None) where
    falls : fall_refusal lower_cluster list ≡ None
    falls = (neither (fall_refusal lower_cluster list) _ (neither (count_refusal list) _ cuts).1).0

    past_falls : clusters_refusal m list n ≡ first_of (refused_if (not (eqb (n % m) 0)) 14 ∷ cluster_count_refusal (bounds same_cluster list) ∷ [])
    past_falls = left_is ∙ ap (λ (x : Option Refusal). or_else x (first_of (refused_if (not (eqb (n % m) 0)) 14 ∷ cluster_count_refusal (bounds same_cluster list) ∷ []))) falls

    pub crowded : eqb (n % m) 0 ≡ true → 129 < length (bounds same_cluster list) → clusters_refusal m list n ≡ Some (refusal_at 15 (get_or (bounds same_cluster list) 128 0))
    crowded e l =
        past_falls ∙ ap (λ x. first_of (refused_if (not x) 14 ∷ cluster_count_refusal (bounds same_cluster list) ∷ [])) e
        ∙ ap (λ b. first_of (refused_at (cond b (Some (get_or (bounds same_cluster list) 128 0)) None) 15 ∷ [])) (lt-ltb 129 (length (bounds same_cluster list)) l)

    pub cut_fits : eqb (n % m) 0 ≡ true → length (bounds same_cluster list) ≤ 129 → clusters_refusal m list n ≡ None
    cut_fits e l =
        past_falls ∙ ap (λ x. first_of (refused_if (not x) 14 ∷ cluster_count_refusal (bounds same_cluster list) ∷ [])) e
        ∙ ap (λ b. first_of (refused_at (cond b (Some (get_or (bounds same_cluster list) 128 0)) None) 15 ∷ [])) (le-ltb 129 (length (bounds same_cluster list)) l)

-- ---- the clusters, each with the same sample size
cuts_same : (s t : ℕ → ℕ) (list : List Row) (j a : ℕ) (bs : List ℕ) → ((i : ℕ) → i < j + length bs → s i ≡ t i) → cuts s list j a bs ≡ cuts t list j a bs
cuts_same s t list j a [] h = refl
cuts_same s t list j a (b ∷ bs) h =
    ap₂ (λ (x : ℕ) (ps : List Part). record { at = a; rows = take (b - a) (drop a list); sample = x } ∷ ps) (h j (omega arith)) (cuts_same s t list (suc j) b bs (λ i l. h i (omega arith)))

cut_same : (s t : ℕ → ℕ) (list : List Row) (bs : List ℕ) → ((i : ℕ) → i < length bs - 1 → s i ≡ t i) → cut s list bs ≡ cut t list bs
cut_same s t list [] h = refl
cut_same s t list (a ∷ bs) h = cuts_same s t list 0 a bs (λ i l. h i (omega arith))

pub clusters_are : (m : ℕ) (list : List Row) → all_parts (cut_clusters m list) ≡ clusters m list
clusters_are m list =
    cut_same (sample_of (cut_clusters m list)) (λ _. m) list (bounds same_cluster list) (λ i l. get_or-replicate (length (bounds same_cluster list) - 1) i m 0 l)

pub counted_clusters : (list : List Row) (v : Tables) → v ≡ newly_cut same_cluster list → length (all_parts v) ≡ length (bounds same_cluster list) - 1
counted_clusters list v e = ap (λ (w : Tables). length (all_parts w)) e ∙ cut-length (sample_of (newly_cut same_cluster list)) list (bounds same_cluster list)
