-- The plan of stratification is sound if those of the design below are.
use Rattle.std.proofs.Common.{◌≡◌, ℕ, ◌<◌, ◌≤◌, not, eqb, List, length, None, refl, arith}
use Rattle.std.proofs.lemmas.Bool.{eqb-true, eqb-false, not-false}
use Rattle.design.specs.Faults.{or_else, refused_if}
use Rattle.design.specs.Lists.{count_refusal}
use Rattle.design.specs.Design.{Sound}
use Rattle.design.specs.declared.row.Row.{Row}
use Rattle.design.proofs.Firsts.{neither, not_refused}
use Rattle.design.proofs.Checks.{counted}
use Rattle.parts.specs.Parts.{same_stratum}
use Rattle.parts.specs.Orders.{lower_stratum, falls_at, fall_refusal}
use Rattle.design.specs.Plans.{Plans, nothing, SoundPlans}
use Rattle.parts.specs.Series.{numerators, part_refusal}
use Rattle.parts.proofs.Series.{series_fair}
use Rattle.parts.proofs.Lawfuls.{chain_parts, apart_parts, all_accepted, lawful_apart, prescribed_parts}
use Rattle.layers.specs.Stratified.{take_of, strata, total_take, strata_refusal, series_run}
use Rattle.layers.specs.Laws.{StratifiedSound}
use Rattle.layers.proofs.Rows.{Named, named_either, named_whole, named_first, named_count, named_parts, sound_plan}

-- what the checks of stratification leave
pub record Fits (takes : List ℕ) (list : List Row) : Type 0 where
  pub some_takes : 0 < length takes
  pub some_rows : 0 < length list
  pub few_rows : length list ≤ 1024
  pub strata_are : length (strata takes list) ≡ length takes

pub fits : (takes : List ℕ) (list : List Row) (n : ℕ) → strata_refusal takes list n ≡ None → Fits takes list
fits takes list n e =
    let a = neither (refused_if (eqb (length takes) 0) 10) _ e in
    let b = neither (count_refusal list) _ a.1 in
    let c = neither (fall_refusal lower_stratum list) _ b.1 in
    let d = neither (refused_if (not (eqb (length (strata takes list)) (length takes))) 12) _ c.1 in
    let f = counted list b.0 in
    record {
      some_takes = omega (arith, eqb-false (length takes) 0 (not_refused _ 10 a.0));
      some_rows = f.some_rows;
      few_rows = f.few_rows;
      strata_are = eqb-true (length (strata takes list)) (length takes) (not-false _ (not_refused _ 12 d.0));
    }

named_strata : (takes : List ℕ) (list : List Row) (n : ℕ) → Named (length list) (strata_refusal takes list n)
named_strata takes list n =
    let either = named_either (length list) in
    let whole = named_whole (length list) in
    either _ _ (whole (eqb (length takes) 0) 10)
    (either _ _ (named_count list)
    (either _ _ (named_first (length list) (falls_at lower_stratum list) 11)
    (either _ _ (whole (not (eqb (length (strata takes list)) (length takes))) 12)
    (either _ _ (whole (not (eqb (total_take takes) n)) 13) tt))))

module _ (B : Plans) (law : SoundPlans B) (takes : List ℕ) (list : List Row) (n : ℕ) where
  sound_strata : or_else (strata_refusal takes list n) (part_refusal B (strata takes list)) ≡ None
      → Sound list (numerators B (strata takes list)) (series_run B (strata takes list) (length list))
  sound_strata e =
      let a = neither (strata_refusal takes list n) _ e in
      let f = fits takes list n a.0 in
      let ok = all_accepted B (strata takes list) a.1 in
      record {
        some_rows = f.some_rows;
        few_rows = f.few_rows;
        units_listed = refl;
        lawful = lawful_apart B law (strata takes list) 0 (length list) (apart_parts same_stratum (take_of takes) list) ok nothing (λ k y. absurd y);
        prescribed = λ k l. prescribed_parts B law (strata takes list) 0 (length list) k (chain_parts same_stratum (take_of takes) list) (omega arith) l ok;
        fair = λ k l. series_fair B law same_stratum (take_of takes) list ok k l;
      }

pub stratified_sound : StratifiedSound
stratified_sound B law takes list n =
    sound_plan list (or_else (strata_refusal takes list n) (part_refusal B (strata takes list))) (numerators B (strata takes list)) (series_run B (strata takes list) (length list))
    (named_either (length list) _ _ (named_strata takes list n) (named_parts B law 0 (strata takes list) (length list) (apart_parts same_stratum (take_of takes) list)))
    (sound_strata B law takes list n)
