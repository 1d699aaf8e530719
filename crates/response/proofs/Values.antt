-- Answers that are a value, or a refusal, and never both.
use Rattle.std.proofs.Common.{◌≡◌, ℕ, Ok, Err, Result, ap, arith}
use Rattle.design.specs.Faults.{told}
use Rattle.design.specs.declared.fault.Fault.{Fault}

-- an answer that is a value by the rules is that value
pub told_value : {A : Type 0} (r : Result A Fault) (a : A) → told r ≡ Ok a → r ≡ Ok a
told_value (Ok b) a e = let same : b ≡ a = cc in ap Ok same
told_value (Err f) a e = absurd (let z : ◌≡◌ {A = ℕ} 0 1 = cc in (let y : ⊥ = omega arith in y))

pub one_value : {A E : Type 0} (r : Result A E) (a b : A) → r ≡ Ok a → r ≡ Ok b → a ≡ b
one_value r a b f h = cc

pub never_refused : {A E X : Type 0} (r : Result A E) (a : A) (e : E) → r ≡ Ok a → r ≡ Err e → X
never_refused r a e f h = absurd (let z : ◌≡◌ {A = ℕ} 0 1 = cc in (let y : ⊥ = omega arith in y))
