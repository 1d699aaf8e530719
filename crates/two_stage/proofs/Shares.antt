-- The shares of two-stage drawing.
use Rattle.std.proofs.Common.{◌≡◌, ℕ, ◌*◌, ◌^◌, ◌<◌, ◌≤◌, Bool, true, false, length, get_or, Ok, Err, sym, refl, subst, ap₂, arith}
use denote.Enum.Bare.{sameb}
use Rattle.std.proofs.lemmas.Bool.{false≢true}
use Rattle.std.proofs.Math.Nat.{le_of_mul-le-mul_right, mul-le-mul_left}
use Rattle.outcomes.specs.Trees.{Tree, Sample, Share, HasWays, weight, inclusion}
use Rattle.outcomes.proofs.Trees.{positive, event_and_not, lawful_ways}
use Rattle.design.specs.Design.{Standing, no_run, in_run, Shared, SoundStanding}
use Rattle.design.specs.declared.fault.Fault.{Fault}
use Rattle.design.specs.Fractions.{Fraction, fraction}
use Rattle.parts.specs.Seats.{Seated}
use Rattle.design.specs.Plans.{Plans}
use Rattle.parts.specs.Running.{Tables, standing_by}
use Rattle.parts.proofs.Places.{cut-length}
use Rattle.layers.specs.Stages.{in_second, Fits, FirstUnderway}
use Rattle.two_stage.specs.Stands.{IntactIn}
use Rattle.two_stage.specs.contracts.Stage.{the_type}
use Rattle.two_stage.specs.declared.Stage.{Stage}
use Rattle.two_stage.specs.declared.Stage.TheVariants.{Waiting, First, Second}

-- a share is no larger than one
cancel : (a b w i : ℕ) → 0 < w → i ≤ w → a * w ≡ b * i → a ≤ b
cancel a b w i p l e = le_of_mul-le-mul_right {m = a} {n = b} {k = w} (subst (λ x. x ≤ b * w) (sym e) (mul-le-mul_left b l)) p

share_le : (k num den : ℕ) (t : Tree Sample) → HasWays t → Share k num den t → num ≤ den
share_le k num den t h s = cancel num den (weight t) (inclusion k t) (positive t h) (omega (arith, event_and_not (λ u. u k) t)) s

-- its numbers fit 64 bits
pub small : (st : Standing) → SoundStanding st → (k : ℕ) (x : Fraction) → Shared st k (Ok x) → (x.0 ≤ x.1) × (x.1 ≤ 10 ^ 15)
small no_run s k x h = absurd h
small (in_run r) s k x h =
    let den = h.1.0 in (
      subst (λ d. x.0 ≤ d) (sym den) (share_le k x.0 (r.denominator k) r.tree (lawful_ways r.units r.tree s.lawful) h.1.1),
      subst (λ d. d ≤ 10 ^ 15) (sym den) (s.denominators k h.0).1,
    )

-- the first design has a share of each cluster
pub never_refused : (B : Plans) (v : Tables) (st : Standing) → Fits B v st → (k j : ℕ) → Seated v.bounds k j → (e : Fault) → Shared st j (Err e) → ⊥
never_refused B v no_run f k j s e h = f
never_refused B v (in_run r) f k j s e h = omega (arith, f.units_are, h.0, s.place, cut-length (λ i. get_or v.samples i 0) v.rows v.bounds)

-- nor has the series of the second design a refusal for a unit of the list
pub second_refused : (B : Plans) (v : Tables) (st su : Standing) (b : Bool) (k : ℕ) (e : Fault) → k < length v.rows → Shared (standing_by b B v su) k (Err e)
    → Shared (in_second B v st (standing_by b B v su)) k (Err e)
second_refused B v no_run no_run true k e l h = h
second_refused B v (in_run r) no_run true k e l h = h
second_refused B v st (in_run q) true k e l h = absurd (omega (arith, l, h.0))
second_refused B v st su false k e l h = absurd (omega (arith, l, h.0))

-- x, whose numbers are those of a share where 64 bits hold them, is that share
pub as_answered : (st : Standing) → SoundStanding st → (k a b : ℕ) (x : Fraction) → Shared st k (Ok (fraction a b)) → (a < 2 ^ 64 → x.0 ≡ a) → (b < 2 ^ 64 → x.1 ≡ b) → Shared st k (Ok x)
as_answered st s k a b x h p q =
    let z = small st s k (fraction a b) h in
    subst (λ (c : Fraction). Shared st k (Ok c)) (sym (ap₂ fraction (p (omega (arith, z.0, z.1))) (q (omega (arith, z.1))))) h

-- ---- the stage, by what it is not
pub first_underway : (stage : Stage) (B : Plans) (v : Tables) (st su : Standing) → false ≡ sameb the_type stage Waiting → IntactIn stage B v st su → FirstUnderway B v st
first_underway Waiting B v st su e h = absurd (false≢true e)
first_underway First B v st su e h = h.drawing.underway
first_underway Second B v st su e h = h.underway

pub in_second_stage : (stage : Stage) → false ≡ sameb the_type stage Waiting → false ≡ sameb the_type stage First → stage ≡ Second
in_second_stage Waiting e f = absurd (false≢true e)
in_second_stage First e f = absurd (false≢true f)
in_second_stage Second e f = refl

pub in_first_stage : (stage : Stage) → true ≡ sameb the_type stage First → stage ≡ First
in_first_stage Waiting e = absurd (false≢true (sym e))
in_first_stage First e = refl
in_first_stage Second e = absurd (false≢true (sym e))
