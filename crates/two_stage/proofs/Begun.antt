-- Two-stage drawing that begins: its run is the one of its plan.
use Rattle.std.proofs.Common.{◌≡◌, ℕ, zero, suc, ◌*◌, ◌/◌, ◌^◌, ◌<◌, ◌≤◌, Bool, cond, ltb, List, [], ◌∷◌, length, map, Some, None, Option, sym, refl, ap, ◌∙◌, subst, ap₂, arith}
use Rattle.std.proofs.lemmas.List.{length-map}
use Rattle.outcomes.specs.Trees.{Lawful}
use Rattle.design.specs.Faults.{or_else, first_of, refused_at}
use Rattle.design.specs.Lists.{first}
use Rattle.design.specs.Design.{Plan, refuses, accepts, Standing, in_run, SoundPlan}
use Rattle.design.specs.Fractions.{Fraction}
use Rattle.design.specs.declared.row.Row.{Row}
use Rattle.parts.specs.Parts.{Part, bounds, same_cluster, place_of}
use Rattle.design.specs.Plans.{Plans, denominator_of}
use Rattle.parts.specs.Series.{denominators, part_refusal}
use Rattle.parts.specs.Running.{Tables, all_parts, Begins, Loaded}
use Rattle.layers.specs.TwoStage.{clusters, cluster_row, first_plan, first_refusal, stages, stage_denominators, too_large, product_refusal, stages_run}
use Rattle.layers.specs.Stages.{units_of, denominator_at, in_first, Fits, FirstUnderway}
use Rattle.layers.proofs.TwoStagePlans.{product_small}
use Rattle.two_stage.specs.Of.{cut_clusters, opening_refusal, large_product}
use Rattle.two_stage.proofs.Cutting.{clusters_are}

first_same : (n : ℕ) (p q : ℕ → Bool) → ((k : ℕ) → k < n → p k ≡ q k) → first n p ≡ first n q
first_same zero p q h = refl
first_same (suc n) p q h =
    ap₂ (λ (o : Option ℕ) (b : Bool). or_else o (cond b (Some n) None)) (first_same n p q (λ k l. h k (omega arith))) (h n (omega arith))

pub denominator_begun : (a : Plan) (st : Standing) (j : ℕ) → Begins a st → denominator_at st j ≡ denominator_of a j
denominator_begun (refuses f) st j b = absurd b
denominator_begun (accepts num run) st j b = ap (λ (z : Standing). denominator_at z j) b

pub units_begun : (list : List Row) (a : Plan) (st : Standing) → SoundPlan list a → Begins a st → units_of st ≡ length list
units_begun list (refuses f) st s b = absurd b
units_begun list (accepts num run) st s b = ap units_of b ∙ s.units_listed

-- ---- the products of denominators
module _ (B : Plans) (w : Tables) (L : Loaded B w) (a : Plan) (st : Standing) (b : Begins a st) (ps : List Part) (list : List Row) (p : all_parts w ≡ ps) (r : length w.rows ≡ length list) where
  pub products_are : refused_at (first (length w.rows) (large_product st w)) 16 ≡ product_refusal a B ps (length list)
  products_are =
      ap (λ (o : Option ℕ). refused_at o 16)
      (first_same (length w.rows) (large_product st w) (too_large (stage_denominators a B (all_parts w)))
      (λ k l. ap₂ (λ (c d : ℕ). ltb (10 ^ 15) (c * d)) (denominator_begun a st (place_of 0 (all_parts w) k) b) (ap (λ (s : Fraction). s.1) (L.shares_are k l))))
      ∙ ap₂ (λ (n : ℕ) (qs : List Part). refused_at (first n (too_large (stage_denominators a B qs))) 16) r p

  pub first_run : in_first B w st ≡ in_run (stages_run a B ps (length list))
  first_run = by a b
    where
      by : (a : Plan) → Begins a st → in_first B w st ≡ in_run (stages_run a B ps (length list))
      by (refuses f) b = absurd b
      by (accepts num run) b =
          ap (in_first B w) b
          ∙ ap₂ (λ (qs : List Part) (n : ℕ). in_run (record {
            tree = stages B qs run.tree;
            units = n;
            denominator = λ k. run.denominator (place_of 0 qs k) * denominators B qs k;
          })) p r

  pub first_underway : SoundPlan (map cluster_row ps) a → product_refusal a B ps (length list) ≡ None → FirstUnderway B w st
  first_underway s e = record { loaded = L; fits = by a b s e }
    where
      by : (a : Plan) → Begins a st → SoundPlan (map cluster_row ps) a → product_refusal a B ps (length list) ≡ None → Fits B w st
      by (refuses f) b s e = absurd b
      by (accepts num run) b s e =
          let count : length (map cluster_row ps) ≡ length (all_parts w) = length-map ps cluster_row ∙ ap length (sym p) in
          subst (Fits B w) (sym b) (record {
            units_are = s.units_listed ∙ count;
            lawful = subst (λ n. Lawful n run.tree) count s.lawful;
            small = λ k l.
                subst (λ (qs : List Part). run.denominator (place_of 0 qs k) * denominators B qs k ≤ 10 ^ 15) (sym p)
                (product_small (accepts num run) B ps (length list) e k (subst (λ n. k < n) r l));
          })

-- ---- what follows the cut, in the words of the plan
module _ (A B P Q : Plans) (m : ℕ) (list : List Row) (n q : ℕ) (v : Tables) (e : P ≡ A) (f : Q ≡ B) (cut : v ≡ cut_clusters m list) (drawn : q ≡ n / m) where
  pub opening_is : opening_refusal (P (map cluster_row (all_parts v)) q) Q v
      ≡ first_of (first_refusal (bounds same_cluster list) (first_plan A (clusters m list) m n)
      ∷ part_refusal B (clusters m list)
      ∷ product_refusal (first_plan A (clusters m list) m n) B (clusters m list) (length list) ∷ [])
  opening_is =
      ap₂ (λ (X Y : Plans). opening_refusal (X (map cluster_row (all_parts v)) q) Y v) e f
      ∙ ap₂ (λ (w : Tables) (k : ℕ). opening_refusal (A (map cluster_row (all_parts w)) k) B w) cut drawn
      ∙ ap (λ (ps : List Part). first_of (first_refusal (bounds same_cluster list) (first_plan A ps m n) ∷ part_refusal B ps ∷ product_refusal (first_plan A ps m n) B ps (length list) ∷ []))
      (clusters_are m list)

  pub run_is : stages_run (P (map cluster_row (all_parts v)) q) Q (all_parts v) (length v.rows) ≡ stages_run (first_plan A (clusters m list) m n) B (clusters m list) (length list)
  run_is =
      ap₂ (λ (X Y : Plans). stages_run (X (map cluster_row (all_parts v)) q) Y (all_parts v) (length v.rows)) e f
      ∙ ap₂ (λ (w : Tables) (k : ℕ). stages_run (A (map cluster_row (all_parts w)) k) B (all_parts w) (length w.rows)) cut drawn
      ∙ ap (λ (ps : List Part). stages_run (first_plan A ps m n) B ps (length list)) (clusters_are m list)
