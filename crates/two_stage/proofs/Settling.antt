-- From the first stage to the second.
use Rattle.std.proofs.Common.{◌≡◌, ℕ, ◌*◌, ◌^◌, ◌<◌, ◌≤◌, List, length, get_or, sym, refl, ap, ◌∙◌, subst, ap₂, arith}
use Rattle.outcomes.specs.Trees.{Lawful, Sample}
use Rattle.design.specs.Design.{Standing, no_run, in_run, ways_of}
use Rattle.design.specs.declared.row.Row.{Row}
use Rattle.parts.specs.Parts.{Part, cut, place_of}
use Rattle.design.specs.Plans.{Plans, nothing}
use Rattle.parts.specs.Series.{denominators}
use Rattle.parts.specs.Copying.{outcome_of}
use Rattle.parts.specs.Running.{Tables, all_parts, run_from, standing_of, Loaded, AtPart, Ready, Intact}
use Rattle.layers.specs.Stages.{in_first, in_second, Fits, FirstUnderway, InSecond}
use Rattle.layers.proofs.Stages.{drawn}
use Rattle.series.specs.Of.{IsReady, SameList, plans, tables_of}
use Rattle.series.specs.declared.Series.{Series}
use Rattle.design.specs.declared.design.Design as Design
use Rattle.series.specs.Moving.{Chosen}

-- ---- the same list
pub parts_same : (v w : Tables) → SameList v w → all_parts w ≡ all_parts v
parts_same v w s =
    ap (λ (xs : List ℕ). cut (λ j. get_or xs j 0) w.rows w.bounds) s.samples
    ∙ ap₂ (λ (rows : List Row) (bs : List ℕ). cut (λ j. get_or v.samples j 0) rows bs) s.rows s.bounds

pub fits_same : (B : Plans) (v w : Tables) (st : Standing) → all_parts w ≡ all_parts v → length w.rows ≡ length v.rows → Fits B v st → Fits B w st
fits_same B v w no_run p n f = f
fits_same B v w (in_run r) p n f = record {
  units_are = f.units_are ∙ sym (ap length p);
  lawful = subst (λ (ps : List Part). Lawful (length ps) r.tree) (sym p) f.lawful;
  small = λ k l.
      subst (λ (ps : List Part). r.denominator (place_of 0 ps k) * denominators B ps k ≤ 10 ^ 15) (sym p) (f.small k (subst (λ m. k < m) n l));
}

pub second_same : (B : Plans) (v w : Tables) (st su : Standing) → all_parts w ≡ all_parts v → length w.rows ≡ length v.rows → in_second B w st su ≡ in_second B v st su
second_same B v w no_run su p n = refl
second_same B v w (in_run r) no_run p n = refl
second_same B v w (in_run r) (in_run s) p n =
    ap₂ (λ (ps : List Part) (rows : ℕ). in_run (record { tree = s.tree; units = rows; denominator = λ k. r.denominator (place_of 0 ps k) * denominators B ps k })) p n

-- ---- the second stage begins, on the parts that are chosen; the second design has just begun on the first of all
pub ready_chosen : {D : Type 0} (G : Design.Ghosts D) (s x : Series D) {c : Sample} → Loaded (plans G s) (tables_of s) → AtPart (plans G s) (tables_of s) 0 (G.tree s.below)
    → x.below ≡ s.below → Chosen c (tables_of s) (tables_of x) → IsReady G x
ready_chosen {D} G s x {c} L at below ch =
    subst (λ (b : D). Ready (G.plan b) (tables_of x) (G.tree b)) (sym below)
    (subst (λ (w : Tables). Ready (G.plan s.below) w (G.tree s.below)) (sym ch.same) (record {
      loaded = record { rising = L.rising; accepted = L.accepted; shares_are = L.shares_are };
      at_first = λ l. at (omega (arith, l, ch.as_many));
    }))

-- ---- the second stage begins, on the parts that the first design has taken
module _ (B : Plans) (v : Tables) (st : Standing) (u : FirstUnderway B v st) (end : ways_of st ≡ 0) (count : length v.chosen ≡ length (all_parts v)) (w : Tables)
    (ch : Chosen (outcome_of st) v w) where
  chosen_parts : all_parts w ≡ all_parts v
  chosen_parts = ap all_parts ch.same

  chosen_rows : length w.rows ≡ length v.rows
  chosen_rows = ap (λ (x : Tables). length x.rows) ch.same

  pub settled : (C : Plans) (x : Tables) (su : Standing) → C ≡ B → SameList w x → Intact C x su → standing_of C x su ≡ run_from B w 0 nothing
      → InSecond C x st su × (in_second C x st (standing_of C x su) ≡ in_first B v st)
  settled C x su e s h r =
      let p = parts_same w x s in
      let n : length x.rows ≡ length w.rows = ap length s.rows in (
        record {
          underway = record {
            loaded = h.underway.loaded;
            fits = subst (λ (P : Plans). Fits P x st) (sym e) (fits_same B w x st p n (fits_same B v w st chosen_parts chosen_rows u.fits));
          };
          series = h;
        },
        ap₂ (λ (P : Plans) (z : Standing). in_second P x st z) e r ∙ second_same B w x st (run_from B w 0 nothing) p n
            ∙ drawn B v w st u.fits end chosen_parts chosen_rows (λ j l. ch.flags j (subst (λ m. j < m) (sym count) l)),
      )
