-- The sizes of a part of a list.
use Rattle.std.proofs.Common.{◌≡◌, ℕ, ◌+◌, ◌-◌, ◌<◌, ◌≤◌, List, [], ◌∷◌, ◌++◌, length, map, take, drop, ap, ◌∙◌, arith, length-take, length-drop}
use Rattle.std.proofs.lemmas.List.{get_or-take, get_or-drop, map-append}
use Rattle.std.proofs.Math.Seq.{take-add}
use Rattle.outcomes.specs.Sums.{sum}
use Rattle.outcomes.proofs.Sums.{sum_same, sum_split}
use Rattle.design.specs.Lists.{size_at, total}
use Rattle.design.specs.declared.row.Row.{Row}
use Rattle.parts.specs.Parts.{Part}
use Rattle.parts.specs.Bounds.{Rising}
use Rattle.parts.specs.Running.{Tables, all_parts, part_at}
use Rattle.parts.proofs.Seats.{split}
use Rattle.layers.specs.TwoStage.{cluster_row}

module _ (list : List Row) (a n : ℕ) (within : a + n ≤ length list) where
  part : List Row
  part = take n (drop a list)

  part_long : length (take n (drop a list)) ≡ n
  part_long = omega (arith, length-take n (drop a list), length-drop a list)

  sizes : sum n (size_at (take n (drop a list))) ≡ sum n (λ i. size_at list (a + i))
  sizes = sum_same n (size_at (take n (drop a list))) (λ i. size_at list (a + i)) (λ i l. ap (λ (r : Row). r.size) (get_or-take n (drop a list) i _ l ∙ get_or-drop a list i _))

  pub total_part : total (take n (drop a list)) ≤ total list
  total_part =
      let f = size_at list in
      let r = length list - (a + n) in
      let all : a + n + r ≡ length list = omega arith in
      omega (
        arith,
        ap (λ m. sum m (size_at (take n (drop a list)))) part_long,
        sizes,
        sum_split a n f,
        sum_split (a + n) r f,
        ap (λ m. sum m f) all,
      )

-- one part more
pub heads_more : (v : Tables) → Rising v.bounds (length v.rows) → (j : ℕ) → j + 1 < length v.bounds
    → map cluster_row (take (j + 1) (all_parts v)) ≡ map cluster_row (take j (all_parts v)) ++ cluster_row (part_at v j) ∷ []
heads_more v r j l =
    ap (map cluster_row) (take-add j 1 (all_parts v) ∙ ap (λ (ps : List Part). take j (all_parts v) ++ take 1 ps) (split v r j l))
    ∙ map-append cluster_row (take j (all_parts v)) (part_at v j ∷ [])
