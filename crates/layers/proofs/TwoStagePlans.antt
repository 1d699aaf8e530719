-- The plan of two-stage drawing is sound if those of the two designs below are.
use Rattle.std.proofs.Common.{◌≡◌, ℕ, ◌-◌, ◌/◌, ◌%◌, ◌^◌, ◌<◌, ◌≤◌, Bool, true, false, cond, not, eqb, ltb, List, map, length, get_or, Some, None, refl, ◌∙◌, inl, inr, mul-le-mul, mul-pos, arith}
use Rattle.std.proofs.lemmas.List.{length-map}
use Rattle.std.proofs.lemmas.Bool.{ltb-true, ltb-false, eqb-true, eqb-false, not-false}
use Rattle.outcomes.specs.Trees.{Tree, Sample, Lawful}
use Rattle.outcomes.proofs.Trees.{lawful_ways}
use Rattle.design.specs.Faults.{refused_if, refused_at}
use Rattle.design.specs.Lists.{total, list_refusal}
use Rattle.design.specs.Design.{Plan, refuses, accepts, Sound, SoundPlan}
use Rattle.design.specs.declared.row.Row.{Row}
use Rattle.design.proofs.Firsts.{first_none, neither, not_refused, no_row}
use Rattle.design.proofs.Checks.{checked}
use Rattle.parts.specs.Parts.{Part, same_cluster, bounds, place_of}
use Rattle.parts.specs.Orders.{lower_cluster, falls_at, fall_refusal}
use Rattle.design.specs.Plans.{Plans, nothing, tree_of, numerator_of, denominator_of, SoundPlans}
use Rattle.parts.specs.Series.{series, chosen, part_refusal}
use Rattle.parts.specs.Bounds.{Accepted, AllAccepted}
use Rattle.parts.proofs.Chains.{Apart}
use Rattle.parts.proofs.Places.{cut-length, chain_place}
use Rattle.parts.proofs.Series.{lawful_of, fair_of, apart_chosen, accepted_chosen, stages_fair}
use Rattle.parts.proofs.Lawfuls.{chain_parts, apart_parts, all_accepted, lawful_bind, lawful_apart, prescribed_of, prescribed_parts}
use Rattle.layers.specs.TwoStage.{clusters, cluster_row, first_plan, stages, stage_numerators, stage_denominators, cluster_count_refusal, clusters_refusal, first_refusal, too_large, product_refusal, stages_run, two_stage_plan}
use Rattle.layers.specs.Laws.{TwoStageSound}
use Rattle.layers.proofs.Rows.{Named, named_either, named_whole, named_first, named_list, named_parts, bound_listed, sound_plan}

-- ---- what the checks of two-stage drawing leave
pub record Clustered (m : ℕ) (list : List Row) (n : ℕ) : Type 0 where
  pub some_within : 0 < m
  pub some_rows : 0 < length list
  pub few_rows : length list ≤ 1024
  pub some_sample : 0 < n
  pub small : total list ≤ 10240000
  pub multiple : n % m ≡ 0
  pub few_clusters : length (bounds same_cluster list) ≤ 129

not_crowded : (firsts : List ℕ) → cluster_count_refusal firsts ≡ None → length firsts ≤ 129
not_crowded firsts e = ltb-false 129 (length firsts) (by (ltb 129 (length firsts)) (no_row _ 15 e))
  where
    by : (b : Bool) → cond b (Some (get_or firsts 128 0)) None ≡ None → b ≡ false
    by true e = cc
    by false e = refl

pub clustered : (m : ℕ) (list : List Row) (n : ℕ) → clusters_refusal m list n ≡ None → Clustered m list n
clustered m list n e =
    let a = neither (refused_if (eqb m 0) 10) _ e in
    let b = neither (list_refusal list n) _ a.1 in
    let c = neither (fall_refusal lower_cluster list) _ b.1 in
    let d = neither (refused_if (not (eqb (n % m) 0)) 14) _ c.1 in
    let f = neither (cluster_count_refusal (bounds same_cluster list)) _ d.1 in
    let g = checked list n b.0 in
    record {
      some_within = omega (arith, eqb-false m 0 (not_refused _ 10 a.0));
      some_rows = g.some_rows;
      few_rows = g.few_rows;
      some_sample = g.some_sample;
      small = g.small;
      multiple = eqb-true (n % m) 0 (not-false _ (not_refused _ 14 d.0));
      few_clusters = not_crowded (bounds same_cluster list) f.0;
    }

-- the first design accepts where it is not refused
pub first_accepted : (firsts : List ℕ) (a : Plan) → first_refusal firsts a ≡ None → Accepted a
first_accepted firsts (refuses f) e = absurd (let z : ◌≡◌ {A = ℕ} 0 1 = cc in omega arith)
first_accepted firsts (accepts num run) e = tt

-- no product of denominators passes the limit where none is refused
pub product_small : (a : Plan) (B : Plans) (ps : List Part) (units : ℕ) → product_refusal a B ps units ≡ None → (k : ℕ) → k < units → stage_denominators a B ps k ≤ 10 ^ 15
product_small a B ps units e k l = ltb-false (10 ^ 15) (stage_denominators a B ps k) (first_none units (too_large (stage_denominators a B ps)) (no_row _ 16 e) k l)

-- ---- the rows of refusals
named_crowd : (list : List Row) → Named (length list) (cluster_count_refusal (bounds same_cluster list))
named_crowd list = by (ltb 129 (length (bounds same_cluster list))) refl
  where
    by : (b : Bool) → ltb 129 (length (bounds same_cluster list)) ≡ b → Named (length list) (refused_at (cond b (Some (get_or (bounds same_cluster list) 128 0)) None) 15)
    by true is = bound_listed same_cluster list 128 (inr (ltb-true 129 (length (bounds same_cluster list)) is))
    by false is = tt

named_clusters : (m : ℕ) (list : List Row) (n : ℕ) → Named (length list) (clusters_refusal m list n)
named_clusters m list n =
    let either = named_either (length list) in
    let whole = named_whole (length list) in
    either _ _ (whole (eqb m 0) 10)
    (either _ _ (named_list list n)
    (either _ _ (named_first (length list) (falls_at lower_cluster list) 11)
    (either _ _ (whole (not (eqb (n % m) 0)) 14)
    (either _ _ (named_crowd list) tt))))

heads : (m : ℕ) (list : List Row) → length (map cluster_row (clusters m list)) ≡ length (bounds same_cluster list) - 1
heads m list = length-map (clusters m list) cluster_row ∙ cut-length (λ _. m) list (bounds same_cluster list)

-- the first design's refusal names the first row of a cluster
named_heads : (m : ℕ) (list : List Row) (a : Plan) → SoundPlan (map cluster_row (clusters m list)) a → Named (length list) (first_refusal (bounds same_cluster list) a)
named_heads m list (refuses f) (inl z) = bound_listed same_cluster list f.row (inl z)
named_heads m list (refuses f) (inr z) = bound_listed same_cluster list f.row (inr (omega (arith, heads m list)))
named_heads m list (accepts num run) s = tt

-- ---- the tree
pub lawful_stages : (B : Plans) (law : SoundPlans B) (ps : List Part) (e n : ℕ) (t : Tree Sample) → Lawful n t → Apart 0 ps e → AllAccepted B ps → Lawful e (stages B ps t)
lawful_stages B law ps e n t l h ok =
    lawful_bind n e t (λ c. series B (chosen c 0 ps) nothing) l
    (λ c g. lawful_apart B law (chosen c 0 ps) 0 e (apart_chosen c 0 0 ps e h) (accepted_chosen B c 0 ps ok) nothing (λ k y. absurd y))

module _ (A B : Plans) (law₁ : SoundPlans A) (law₂ : SoundPlans B) (m : ℕ) (list : List Row) (n : ℕ) where
  abbrev ps : List Part
  ps = clusters m list

  abbrev a : Plan
  a = first_plan A (clusters m list) m n

  sound_first : SoundPlan (map cluster_row ps) a
  sound_first = law₁ (map cluster_row ps) (n / m)

  place_in : (k : ℕ) → k < length list → place_of 0 ps k < length (map cluster_row ps)
  place_in k l = omega (arith, length-map ps cluster_row, chain_place 0 0 ps (length list) k (chain_parts same_cluster (λ _. m) list) (omega arith) l)

  sound_stages : Clustered m list n → Accepted a → AllAccepted B ps → product_refusal a B ps (length list) ≡ None
      → Sound list (stage_numerators a B ps) (stages_run a B ps (length list))
  sound_stages f ok₁ ok₂ e =
      let lawful₁ = lawful_of (map cluster_row ps) a sound_first ok₁ in
      record {
        some_rows = f.some_rows;
        few_rows = f.few_rows;
        units_listed = refl;
        lawful = lawful_stages B law₂ ps (length list) (length (map cluster_row ps)) (tree_of a) lawful₁ (apart_parts same_cluster (λ _. m) list) ok₂;
        prescribed = λ k l.
            let p = prescribed_of (map cluster_row ps) a sound_first ok₁ (place_of 0 ps k) (place_in k l) in
            let q = prescribed_parts B law₂ ps 0 (length list) k (chain_parts same_cluster (λ _. m) list) (omega arith) l ok₂ in
            (mul-pos p.0 q.0, mul-le-mul p.1 q.1, product_small a B ps (length list) e k l);
        fair = λ k l.
            stages_fair B law₂ same_cluster (λ _. m) list ok₂ k l (tree_of a) (numerator_of a (place_of 0 ps k)) (denominator_of a (place_of 0 ps k))
            (lawful_ways (length (map cluster_row ps)) (tree_of a) lawful₁) (fair_of (map cluster_row ps) a sound_first ok₁ (place_of 0 ps k) (place_in k l));
      }

  sound_two : SoundPlan list (two_stage_plan m A B list n)
  sound_two =
      let either = named_either (length list) in
      sound_plan list _ (stage_numerators a B ps) (stages_run a B ps (length list))
      (either _ _ (named_clusters m list n)
      (either _ _ (named_heads m list a sound_first)
      (either _ _ (named_parts B law₂ 0 ps (length list) (apart_parts same_cluster (λ _. m) list))
      (either _ _ (named_first (length list) (too_large (stage_denominators a B ps)) 16) tt))))
      (λ e.
      let x = neither (clusters_refusal m list n) _ e in
      let y = neither (first_refusal (bounds same_cluster list) a) _ x.1 in
      let z = neither (part_refusal B ps) _ y.1 in
      let w = neither (product_refusal a B ps (length list)) _ z.1 in
      sound_stages (clustered m list n x.0) (first_accepted (bounds same_cluster list) a y.0) (all_accepted B ps z.0) w.0)

pub two_stage_sound : TwoStageSound
two_stage_sound = sound_two
