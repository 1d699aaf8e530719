-- The shares of a design that has just begun, and the scale as it is worked out of them.
use Rattle.std.proofs.Common.{◌≡◌, ℕ, ◌+◌, ◌<◌, ◌≤◌, Bool, true, false, List, Ok, Err, sym, refl, ap₂, ◌∙◌, subst, add-one, arith}
use Rattle.std.proofs.lemmas.Bool.{lt-ltb, le-ltb, ltb-true}
use lib.Dec.{ltb}
use Rattle.design.proofs.Calls.{prescribed_first}
use Rattle.design.proofs.Firsts.{accepted}
use Rattle.design.specs.Design.{Run, Standing, Shared}
use Rattle.design.specs.Faults.{Answers, numbered, refusal_at, refused_if}
use Rattle.design.specs.declared.fault.Fault.{Fault}
use Rattle.design.specs.Fractions.{Fraction}
use Rattle.design.specs.declared.row.Row.{Row}
use Rattle.weights.specs.Begun.{JustBegun}
use Rattle.weights.specs.Laws.{SharesAboveNone}
use Rattle.weights.specs.Scale.{lcm, top, scale_of}
use Rattle.weights.proofs.Scales.{scale_positive, scale_rises}
use Rattle.weights.proofs.Divisors.{top_positive}

-- ---- shares
pub record Prescribed (num den : ℕ → ℕ) (k : ℕ) (share : Fraction) : Type 0 where
  pub numerator : share.0 ≡ num k
  pub denominator : share.1 ≡ den k

pub prescribed : (standing : Standing) (units : ℕ) (list : List Row) (num : ℕ → ℕ) (run : Run) (k : ℕ) (share : Fraction)
    → JustBegun standing units list num run → Shared standing k (Ok share) → Prescribed num run.denominator k share
prescribed standing units list num run k share h answer =
    let e = prescribed_first list num run k share h.sound (subst (λ s. Shared s k (Ok share)) h.stands answer) in
    record { numerator = e.0; denominator = e.1 }

pub all_some : (standing : Standing) (units : ℕ) (list : List Row) (num : ℕ → ℕ) (run : Run)
    → JustBegun standing units list num run → SharesAboveNone units num
all_some standing units list num run h k l = omega (arith, (h.sound.prescribed k (omega (arith, h.all))).0)

-- ---- the scale
-- a scale that is refused passes the limit
refused_above : (m : ℕ) (P : ℕ → Type 0) (f : Fault) → Answers (refused_if (ltb 1000000 m) 22) P (Err f) → (1000000 < m) × (numbered f ≡ refusal_at 22 0)
refused_above m P f a = by (ltb 1000000 m) refl a
  where
    by : (b : Bool) → ltb 1000000 m ≡ b → Answers (refused_if b 22) P (Err f) → (1000000 < m) × (numbered f ≡ refusal_at 22 0)
    by true e h = (ltb-true 1000000 m e, h)
    by false e h = absurd h

pub scale_passes : (n : ℕ) (Q : ℕ → Type 0) (f : Fault) → 1000000 < n → numbered f ≡ refusal_at 22 0 → Answers (refused_if (ltb 1000000 n) 22) Q (Err f)
scale_passes n Q f l e = subst (λ b. Answers (refused_if b 22) Q (Err f)) (sym (lt-ltb 1000000 n l)) e

pub scale_fits : (m n : ℕ) → m ≡ n → m ≤ 1000000 → Answers (refused_if (ltb 1000000 n) 22) (λ s. s ≡ n) (Ok m)
scale_fits m n e l = subst (λ b. Answers (refused_if b 22) (λ s. s ≡ n) (Ok m)) (sym (le-ltb 1000000 n (omega arith))) e

-- passed after some units, it is passed by the whole frame
pub passed_before : (m n : ℕ) (P Q : ℕ → Type 0) (f : Fault) → Answers (refused_if (ltb 1000000 m) 22) P (Err f) → m ≤ n → Answers (refused_if (ltb 1000000 n) 22) Q (Err f)
passed_before m n P Q f a l = let above = refused_above m P f a in scale_passes n Q f (omega arith) above.1

pub scale_found : (m n : ℕ) → Answers (refused_if (ltb 1000000 n) 22) (λ s. s ≡ n) (Ok m) → m ≡ n
scale_found m n a = (accepted (refused_if (ltb 1000000 n) 22) (λ s. s ≡ n) m a).1

-- one unit more: the scale so far, and the unit's numerator in lowest terms, p
pub record OneMore (units k : ℕ) (num den : ℕ → ℕ) (scale p : ℕ) : Type 0 where
  pub some_scale : 0 < scale
  pub some_p : 0 < p
  pub next : lcm scale p ≡ scale_of (k + 1) num den
  pub rises : lcm scale p ≤ scale_of units num den

pub one_more : (standing : Standing) (units : ℕ) (list : List Row) (num : ℕ → ℕ) (run : Run) (k : ℕ) (share : Fraction) (scale p : ℕ)
    → JustBegun standing units list num run → k < units → Shared standing k (Ok share) → scale ≡ scale_of k num run.denominator
    → p ≡ top share.0 share.1 → OneMore units k num run.denominator scale p
one_more standing units list num run k share scale p h l answer e f =
    let den : ℕ → ℕ = run.denominator in
    let some : SharesAboveNone units num = all_some standing units list num run h in
    let is = prescribed standing units list num run k share h answer in
    let t : p ≡ top (num k) (den k) = f ∙ ap₂ top is.numerator is.denominator in
    let next : lcm scale p ≡ scale_of (k + 1) num den = rw add-one (ap₂ lcm e t) in
    record {
      some_scale = subst (λ n. 0 < n) (sym e) (scale_positive k num den (λ j q. some j (omega arith)));
      some_p = subst (λ n. 0 < n) (sym t) (top_positive (num k) (den k) (some k l));
      next = next;
      rises = subst (λ n. n ≤ scale_of units num den) (sym next) (scale_rises units num den some (k + 1) (omega arith));
    }
