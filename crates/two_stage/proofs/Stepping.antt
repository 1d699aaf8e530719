-- The steps of two-stage drawing.
use Rattle.std.proofs.Common.{◌≡◌, ℕ, ◌<◌, ◌≤◌, ◌⊎◌, length, Ok, Err, Result, sym, ap, ◌∙◌, subst, arith}
use Rattle.design.specs.Faults.{numbered, refusal}
use Rattle.design.specs.Design.{Standing, Stepped, ways_of, below}
use Rattle.design.specs.declared.fault.Fault.{Fault}
use Rattle.design.specs.Plans.{Plans}
use Rattle.parts.specs.Running.{Tables, Intact}
use Rattle.layers.specs.Stages.{in_first, in_second, Fits, Drawing, InFirst, InSecond}
use Rattle.layers.proofs.Stages.{ways_first, below_first, ways_second, below_second, fits_below}
use Rattle.series.specs.Of.{SameList}
use Rattle.two_stage.specs.Stands.{stands_in, IntactIn}
use Rattle.two_stage.specs.declared.Stage.{Stage}
use Rattle.two_stage.specs.declared.Stage.TheVariants.{First}
use Rattle.two_stage.proofs.Settling.{parts_same, fits_same, second_same}

-- the first design has gone on
module _ (stage : Stage) (B : Plans) (v : Tables) (st st' su : Standing) (d : ℕ) (is : stage ≡ First) (h : IntactIn stage B v st su) (gone : (d < ways_of st) × (st' ≡ below st d)) where
  running : InFirst B v st su
  running = subst (λ (z : Stage). IntactIn z B v st su) is h

  pub gone_first : Drawing B v st' su
  gone_first =
      let u = running.drawing.underway in
      record {
        underway = record { loaded = u.loaded; fits = subst (Fits B v) (sym gone.1) (fits_below B v st d gone.0 u.fits) };
        at_first = running.drawing.at_first;
      }

  -- and what then stands is the run that it leaves
  pub stepped_first : (now : Standing) → now ≡ in_first B v st' → (d < ways_of (stands_in stage B v st su)) × (now ≡ below (stands_in stage B v st su) d)
  stepped_first now e =
      let some = running.has_ways in
      let l : d < ways_of (in_first B v st) = omega (arith, ways_first B v st some, gone.0) in
      subst (λ (z : Stage). (d < ways_of (stands_in z B v st su)) × (now ≡ below (stands_in z B v st su) d)) (sym is)
      (l, e ∙ ap (in_first B v) gone.1 ∙ below_first B v st d some)

-- the second design has gone on, or refused
pub stepped_second : {U : Type 0} (r : Result U Fault) (B C : Plans) (v w : Tables) (st su su' : Standing) (d : ℕ) → Fits B v st → C ≡ B → SameList v w → Stepped su d r su'
    → Stepped (in_second B v st su) d r (in_second C w st su')
stepped_second {U} r B C v w st su su' d f e s h =
    subst (λ (z : Standing). Stepped {U = U} (in_second B v st su) d r z) (sym same) (by r h)
  where
    same : in_second C w st su' ≡ in_second B v st su'
    same = ap (λ (P : Plans). in_second P w st su') e ∙ second_same B v w st su' (parts_same v w s) (ap length s.rows)

    by : (r : Result U Fault) → Stepped su d r su' → Stepped (in_second B v st su) d r (in_second B v st su')
    by (Ok u) h = (omega (arith, ways_second B v st su f, h.0), ap (in_second B v st) h.1 ∙ below_second B v st su d)
    by (Err x) h = (
      ap (in_second B v st) h.0,
      subst (λ m. ((m ≡ 0) × (numbered x ≡ refusal 17)) ⊎ ((0 < m) × (m ≤ d) × (numbered x ≡ refusal 18))) (sym (ways_second B v st su f)) h.1,
    )

pub whole_second : (B C : Plans) (v w : Tables) (st su su' : Standing) → InSecond B v st su → C ≡ B → SameList v w → Intact C w su' → InSecond C w st su'
whole_second B C v w st su su' h e s k = record {
  underway = record {
    loaded = k.underway.loaded;
    fits = subst (λ (P : Plans). Fits P w st) (sym e) (fits_same B v w st (parts_same v w s) (ap length s.rows) h.underway.fits);
  };
  series = k;
}
