-- A stratification that has begun: its run is the one of its plan.
use Rattle.std.proofs.Common.{◌≡◌, ℕ, suc, ◌+◌, ◌-◌, ◌<◌, true, false, cond, List, [], ◌∷◌, length, refl, ap, ◌∙◌, arith}
use Rattle.std.proofs.lemmas.List.{get_or-replicate}
use Rattle.outcomes.specs.Trees.{Sample}
use Rattle.design.specs.Design.{in_run}
use Rattle.design.specs.Fractions.{Fraction}
use Rattle.design.specs.declared.row.Row.{Row}
use Rattle.parts.specs.Parts.{Part, bounds, same_stratum}
use Rattle.design.specs.Plans.{Plans, nothing}
use Rattle.parts.specs.Series.{series, chosen}
use Rattle.parts.specs.Running.{Tables, all_parts, is_chosen, run_over, run_from, sample_of}
use Rattle.parts.specs.Trying.{with_shares}
use Rattle.parts.proofs.Places.{cut-length}
use Rattle.layers.specs.Stratified.{strata, series_run}
use Rattle.stratified.specs.Of.{cut_strata}

-- all parts are chosen
pub chosen_all : (c : Sample) (j : ℕ) (ps : List Part) → ((i : ℕ) → i < j + length ps → c i ≡ true) → chosen c j ps ≡ ps
chosen_all c j [] h = refl
chosen_all c j (p ∷ ps) h =
    ap (λ b. cond b (p ∷ chosen c (suc j) ps) (chosen c (suc j) ps)) (h j (omega arith))
    ∙ ap (λ (qs : List Part). p ∷ qs) (chosen_all c (suc j) ps (λ i l. h i (omega arith)))

module _ (B : Plans) (takes : List ℕ) (list : List Row) (shares : List Fraction) where
  abbrev v : Tables
  v = with_shares (cut_strata takes list) shares

  every : (i : ℕ) → i < length (bounds same_stratum list) - 1 → is_chosen v i ≡ true
  every i l = get_or-replicate (length (bounds same_stratum list) - 1) i true false l

  pub run_planned : run_from B (with_shares (cut_strata takes list) shares) 0 nothing ≡ in_run (series_run B (strata takes list) (length list))
  run_planned =
      ap (λ (ps : List Part). in_run (run_over B v (series B ps nothing)))
      (chosen_all (is_chosen v) 0 (all_parts v) (λ i l. every i (omega (arith, cut-length (sample_of v) list (bounds same_stratum list)))))
