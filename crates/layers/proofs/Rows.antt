-- The rows that refusals name: row 0, or a row of the list.
use Rattle.std.proofs.Common.{◌≡◌, ℕ, ◌+◌, ◌<◌, ◌≤◌, Bool, true, false, eqb, ltb, ◌⊎◌, List, [], ◌∷◌, length, get_or, Some, None, Option, refl, ap, ◌∙◌, inl, inr, arith}
use Rattle.design.specs.Faults.{Refusal, or_else, refused_if, refused_at}
use Rattle.design.specs.Lists.{first, no_size, passes, count_refusal, list_refusal}
use Rattle.design.specs.Design.{Plan, refuses, accepts, Run, plan_of, Sound, SoundPlan}
use Rattle.design.specs.declared.row.Row.{Row}
use Rattle.design.proofs.Firsts.{first_below}
use Rattle.parts.specs.Parts.{Part, bounds}
use Rattle.design.specs.Plans.{Plans, SoundPlans}
use Rattle.parts.specs.Series.{plan_for, refused_or, part_refusal}
use Rattle.parts.proofs.Chains.{Apart}
use Rattle.parts.proofs.Cuts.{rising_bounds}
use Rattle.parts.proofs.Places.{rising_at, rising_zero}
use Rattle.parts.proofs.Lawfuls.{apart_le}

-- row 0, or one below n
abbrev pub Listed : ℕ → ℕ → Type 0
Listed n row = (row ≡ 0) ⊎ (row < n)

-- the row of the refusal, if there is one
abbrev pub Named : ℕ → Option Refusal → Type 0
Named n None = Unit {0}
Named n (Some f) = Listed n f.row

module _ (n : ℕ) where
  pub named_either : (x y : Option Refusal) → Named n x → Named n y → Named n (or_else x y)
  named_either None y p q = q
  named_either (Some f) y p q = p

  pub named_whole : (b : Bool) (number : ℕ) → Named n (refused_if b number)
  named_whole true number = inl refl
  named_whole false number = tt

  pub named_first : (test : ℕ → Bool) (number : ℕ) → Named n (refused_at (first n test) number)
  named_first test number = by (first n test) refl
    where
      by : (o : Option ℕ) → first n test ≡ o → Named n (refused_at o number)
      by None e = tt
      by (Some k) e = inr (first_below n test k e)

module _ (list : List Row) where
  pub named_count : Named (length list) (count_refusal list)
  named_count =
      let either = named_either (length list) in
      let whole = named_whole (length list) in
      either _ _ (whole (eqb (length list) 0) 1) (either _ _ (whole (ltb 1024 (length list)) 2) tt)

  pub named_list : (n : ℕ) → Named (length list) (list_refusal list n)
  named_list n =
      let either = named_either (length list) in
      let row = named_first (length list) in
      either _ _ named_count (either _ _ (named_whole (length list) (eqb n 0) 3) (either _ _ (row (no_size list) 4) (either _ _ (row (passes list) 5) tt)))

  -- a plan is sound if its refusal names a row, and without a refusal what it accepts is sound
  pub sound_plan : (o : Option Refusal) (num : ℕ → ℕ) (run : Run) → Named (length list) o → (o ≡ None → Sound list num run) → SoundPlan list (plan_of o num run)
  sound_plan (Some f) num run h s = h
  sound_plan None num run h s = s refl

-- ---- parts
-- the first row of each part is a row of the list
pub bound_listed : (alike : Row → Row → Bool) (list : List Row) (j : ℕ) → (j ≡ 0) ⊎ (j + 1 < length (bounds alike list)) → Listed (length list) (get_or (bounds alike list) j 0)
unfolding bounds
bound_listed alike [] j h = inl refl
bound_listed alike (r ∷ rs) j (inl e) =
    inl (ap (λ i. get_or (bounds alike (r ∷ rs)) i 0) e ∙ (rising_zero (bounds alike (r ∷ rs)) (length (r ∷ rs)) (rising_bounds alike (r ∷ rs) (omega arith))).0)
bound_listed alike (r ∷ rs) j (inr l) =
    let at = rising_at (bounds alike (r ∷ rs)) (length (r ∷ rs)) j (rising_bounds alike (r ∷ rs) (omega arith)) l in
    inr (omega (arith, at.0, at.1))

-- the refusal of a part names one of its rows
pub named_parts : (B : Plans) (law : SoundPlans B) (a : ℕ) (ps : List Part) (e : ℕ) → Apart a ps e → Named e (part_refusal B ps)
named_parts B law a [] e c = tt
named_parts B law a (p ∷ ps) e c =
    by (plan_for B p) (part_refusal B ps) (law p.rows p.sample) (named_parts B law (p.at + length p.rows) ps e c.2) (apart_le (p.at + length p.rows) ps e c.2)
  where
    by : (x : Plan) (o : Option Refusal) → SoundPlan p.rows x → Named e o → p.at + length p.rows ≤ e → Named e (refused_or p.at x o)
    by (refuses f) o (inl z) h l = inr (omega (arith, c.1))
    by (refuses f) o (inr z) h l = inr (omega (arith, c.1))
    by (accepts num run) o s h l = h
