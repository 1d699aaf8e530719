-- The calls of a design, over any run.
use Rattle.std.proofs.Common.{◌≡◌, ℕ, ◌<◌, cond, T, eqb, length, Ok, sym, ◌∙◌, subst, eqb→eq}
use lib.Dec.{eqb_refl}
use Rattle.outcomes.specs.Trees.{Lawful}
use Rattle.outcomes.proofs.Trees.{share_whole, average_one, lawful_ways}
use Rattle.design.specs.Design.{Standing, no_run, in_run, Run, Fair, Shared, Taken, SoundStanding}
use Rattle.design.specs.Fractions.{Fraction}
use Rattle.design.specs.Laws.{PrescribedFirst, OneNumerator}

-- a unit is in every outcome just if its share is the whole
pub taken_by_share : (s : Standing) (k : ℕ) (share : Fraction) → SoundStanding s → Shared s k (Ok share) → Taken s k (Ok (eqb share.0 share.1))
taken_by_share no_run k share l h = h
taken_by_share (in_run run) k share l h =
    let certain = share_whole (λ u. u k) share.0 (run.denominator k) run.tree (lawful_ways run.units run.tree l.lawful) (l.denominators k h.0).0 h.1.1 in (
      h.0,
      (
        λ t. certain.0 (eqb→eq share.0 share.1 t ∙ h.1.0),
        λ a. subst (λ x. T (eqb share.0 x)) (certain.1 a ∙ sym h.1.0) (eqb_refl share.0),
      ),
    )

one : (units : ℕ) (run : Run) (k x y : ℕ) → Lawful units run.tree → Fair run k x → Fair run k y → x ≡ y
one units run k x y lawful = average_one (λ u. cond (u k) 1 0) x y (run.denominator k) run.tree (lawful_ways units run.tree lawful)

pub one_numerator : OneNumerator
one_numerator run k x y s = one run.units run k x y s.lawful

pub prescribed_first : PrescribedFirst
prescribed_first list num run k share s h =
    (one (length list) run k share.0 (num k) s.lawful h.1.1 (s.fair k (subst (λ n. k < n) s.units_listed h.0)), h.1.0)
