-- A list cut into strata: which check refuses it.
use Rattle.std.proofs.Common.{◌≡◌, ℕ, true, false, not, eqb, List, [], ◌∷◌, length, Some, None, Option, sym, ap, ◌∙◌}
use Rattle.design.specs.Faults.{Refusal, refusal, or_else, first_of, refused_if}
use Rattle.design.specs.Lists.{count_refusal}
use Rattle.design.specs.declared.row.Row.{Row}
use Rattle.design.proofs.Firsts.{neither}
use Rattle.parts.specs.Orders.{lower_stratum, fall_refusal}
use Rattle.parts.specs.Parts.{bounds, same_stratum}
use Rattle.parts.specs.Running.{Tables, all_parts, sample_of}
use Rattle.parts.proofs.Places.{cut-length}
use Rattle.layers.specs.Stratified.{take_of, strata, strata_refusal, total_take}
use Rattle.series.specs.Kinds.{cut_refusal}
use Rattle.series.specs.Tables.{newly_cut}
use Rattle.series.specs.declared.kind.PartKind.TheVariants.{Stratum}

module _ (takes : List ℕ) (list : List Row) (n : ℕ) (some : eqb (length takes) 0 ≡ false) (cuts : cut_refusal Stratum list ≡ None) where
  -- what is left to check: as many strata as takes, and takes that add up to n
  abbrev pub Left : Option Refusal
  Left = first_of (refused_if (not (eqb (length (strata takes list)) (length takes))) 12 ∷ refused_if (not (eqb (total_take takes) n)) 13 ∷ [])

  pub left_is : strata_refusal takes list n ≡ first_of (refused_if (not (eqb (length (strata takes list)) (length takes))) 12 ∷ refused_if (not (eqb (total_take takes) n)) 13 ∷ [])
  left_is =
      let a = neither (count_refusal list) _ cuts in
      let b = neither (fall_refusal lower_stratum list) _ a.1 in
      ap (λ x. or_else (refused_if x 10) (or_else (count_refusal list) (or_else (fall_refusal lower_stratum list) Left))) some
      ∙ ap (λ (x : Option Refusal). or_else x (or_else (fall_refusal lower_stratum list) Left)) a.0
      ∙ ap (λ (x : Option Refusal). or_else x Left) b.0

  pub not_as_many : eqb (length (strata takes list)) (length takes) ≡ false → strata_refusal takes list n ≡ Some (refusal 12)
  not_as_many e = left_is ∙ ap (λ x. first_of (refused_if (not x) 12 ∷ refused_if (not (eqb (total_take takes) n)) 13 ∷ [])) e

  pub not_total : eqb (length (strata takes list)) (length takes) ≡ true → eqb (total_take takes) n ≡ false → strata_refusal takes list n ≡ Some (refusal 13)
  not_total e f =
      left_is ∙ ap (λ x. first_of (refused_if (not x) 12 ∷ refused_if (not (eqb (total_take takes) n)) 13 ∷ [])) e
      ∙ ap (λ x. first_of (refused_if (not x) 13 ∷ [])) f

  pub cut_fits : eqb (length (strata takes list)) (length takes) ≡ true → eqb (total_take takes) n ≡ true → strata_refusal takes list n ≡ None
  cut_fits e f =
      left_is ∙ ap (λ x. first_of (refused_if (not x) 12 ∷ refused_if (not (eqb (total_take takes) n)) 13 ∷ [])) e
      ∙ ap (λ x. first_of (refused_if (not x) 13 ∷ [])) f

pub counted_strata : (takes : List ℕ) (list : List Row) (v : Tables) → v ≡ newly_cut same_stratum list → length (all_parts v) ≡ length (strata takes list)
counted_strata takes list v e =
    ap (λ (w : Tables). length (all_parts w)) e
    ∙ cut-length (sample_of (newly_cut same_stratum list)) list (bounds same_stratum list) ∙ sym (cut-length (take_of takes) list (bounds same_stratum list))
