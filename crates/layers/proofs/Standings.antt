-- What stands of a layer, by its parts.
use Rattle.std.proofs.Common.{◌≡◌, ℕ, Bool, true, false, [], ◌∷◌, Some, None, Ok, Err, Option, Result, sym, refl, ap, ◌∙◌, subst}
use mathlib.Core.Logic.{∥∥₁_elim}
use Rattle.design.specs.Faults.{Refusal, numbered, Answers, or_else, first_of}
use Rattle.design.specs.Design.{Run, Standing, no_run, in_run, Began, plan_of, SoundStanding}
use Rattle.design.specs.declared.fault.Fault.{Fault}
use Rattle.design.proofs.Once.{sound_once}
use Rattle.layers.specs.Standings.{stands_if}

-- a fact with one proof, of what is kept while a run stands
pub kept_now : {X G : Type 0} (running : Bool) → ∥ (running ≡ true → X) ∥₁ → running ≡ true → IsProp G → (X → G) → G
kept_now running kept stands once f = ∥∥₁_elim kept once (λ k. f (k stands))

-- the run that stands is sound, where what is kept while one stands makes it so
pub exact_if : (running : Bool) (X : Type 0) (st : Standing) → (X → SoundStanding st) → ∥ (running ≡ true → X) ∥₁ → SoundStanding (stands_if running st)
exact_if true X st f h = kept_now true h refl (sound_once st) f
exact_if false X st f h = tt

-- ---- answers
pub answers_as : {A : Type 0} (o : Option Refusal) (f : Refusal) (Q : A → Type 0) (e : Fault) → o ≡ Some f → numbered e ≡ f → Answers {A = A} o Q (Err e)
answers_as {A} o f Q e h is = subst (λ (x : Option Refusal). Answers {A = A} x Q (Err e)) (sym h) is

pub answers_ok : {A : Type 0} (o : Option Refusal) (Q : A → Type 0) (a : A) → o ≡ None → Q a → Answers {A = A} o Q (Ok a)
answers_ok {A} o Q a h q = subst (λ (x : Option Refusal). Answers {A = A} x Q (Ok a)) (sym h) q

-- two checks have passed, and the call answers as the last one does
pub answers_last : {A : Type 0} (x y t : Option Refusal) (P Q : A → Type 0) (r : Result A Fault) → x ≡ None → y ≡ None → Answers {A = A} t P r → (t ≡ None → (a : A) → Q a)
    → Answers {A = A} (first_of (x ∷ y ∷ t ∷ [])) Q r
answers_last {A} x y t P Q r n m h q =
    subst (λ (o : Option Refusal). Answers {A = A} (or_else o (or_else y (or_else t None))) Q r) (sym n)
    (subst (λ (o : Option Refusal). Answers {A = A} (or_else o (or_else t None)) Q r) (sym m) (by t r h q))
  where
    by : (t : Option Refusal) (r : Result A Fault) → Answers t P r → (t ≡ None → (a : A) → Q a) → Answers (or_else t None) Q r
    by None (Ok a) h q = q refl a
    by None (Err e) h q = h
    by (Some f) (Ok a) h q = h
    by (Some f) (Err e) h q = h

-- ---- an accepted begin, whose refusals are x and then y
module _ (U : Type 0) (x y : Option Refusal) (num : ℕ → ℕ) (run : Run) where
  pub begun : (u : U) (st : Standing) → x ≡ None → y ≡ None → st ≡ in_run run → Began {U = U} (plan_of (or_else x y) num run) (Ok u) st
  begun u st n m h =
      subst (λ (o : Option Refusal). Began {U = U} (plan_of (or_else o y) num run) (Ok u) st) (sym n)
      (subst (λ (o : Option Refusal). Began {U = U} (plan_of o num run) (Ok u) st) (sym m) h)

-- ---- begin, whose refusal is o
module _ (U : Type 0) (o : Option Refusal) (num : ℕ → ℕ) (run : Run) where
  -- refused with the fault e, which was passed on as y
  pub refused_as : (r : Result U Fault) (y e : Fault) → r ≡ Err y → y ≡ e → o ≡ Some (numbered e) → Began {U = U} (plan_of o num run) r no_run
  refused_as r y e is same h =
      subst (λ (x : Result U Fault). Began {U = U} (plan_of o num run) x no_run) (sym (is ∙ ap Err same))
      (subst (λ (x : Option Refusal). Began {U = U} (plan_of x num run) (Err e) no_run) (sym h) (refl, refl))
