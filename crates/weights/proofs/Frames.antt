-- What is answered of a frame, made of what is answered of its scale and of its weights.
use Rattle.std.proofs.Common.{◌≡◌, ℕ, ◌≤◌, true, Some, None, Ok, Err, Option, Result, refl, sym, ◌∙◌, subst, arith}
use Rattle.std.proofs.lemmas.Bool.{false≢true}
use Rattle.std.specs.Result.{is_err}
use Rattle.design.proofs.Firsts.{accepted, refused_by}
use Rattle.design.specs.declared.design.Design as Design
use Rattle.design.specs.Faults.{Answers, Refusal, or_else}
use Rattle.design.specs.declared.fault.Fault.{Fault}
use Rattle.weights.specs.Begun.{HaveWeights, JustBegun, OfPrescribed}
use Rattle.weights.specs.Of.{Weighs, scale_in, weights_in}
use Rattle.weights.specs.Scale.{scale_of, scale_refusal, weight_refusal, weights_refusal}
use Rattle.weights.specs.declared.Weights.{Weights}

-- ---- answers
none_after : (o : Option Refusal) → or_else o None ≡ o
none_after None = refl
none_after (Some f) = refl

weaker : {U : Type 0} (o : Option Refusal) (P Q : U → Type 0) (r : Result U Fault) → ((u : U) → P u → Q u) → Answers o P r → Answers o Q r
weaker None P Q (Ok u) h a = h u a
weaker None P Q (Err e) h a = absurd a
weaker (Some f) P Q (Ok u) h a = absurd a
weaker (Some f) P Q (Err e) h a = a

-- a refusal says nothing of a value
pub of_err : {U : Type 0} (o : Option Refusal) (P Q : U → Type 0) (r : Result U Fault) → is_err r ≡ true → Answers o P r → Answers o Q r
of_err o P Q (Ok u) e a = absurd (false≢true e)
of_err None P Q (Err f) e a = absurd a
of_err (Some g) P Q (Err f) e a = a

-- ---- the frame
-- the scale is refused
pub scale_refused : {U : Type 0} (units : ℕ) (num den : ℕ → ℕ) (P : ℕ → Type 0) (Q : U → Type 0) (f : Fault)
    → Answers (scale_refusal units num den) P (Err f) → Answers {A = U} (weights_refusal units num den) Q (Err f)
scale_refused {U} units num den P Q f a =
    subst (λ o. Answers {A = U} (or_else o (or_else (weight_refusal (scale_of units num den) units num den) None)) Q (Err f))
    (sym (refused_by (scale_refusal units num den) P f a)) refl

-- the scale stands, and the weights are worked out
pub scale_stood : {U : Type 0} (units : ℕ) (num den : ℕ → ℕ) (scale : ℕ) (w : Weights) (r : Result U Fault)
    → scale_in w ≡ scale → Answers (scale_refusal units num den) (λ s. s ≡ scale_of units num den) (Ok scale)
    → Answers (weight_refusal scale units num den) (λ _. HaveWeights units num den scale (weights_in w)) r
    → Answers (weights_refusal units num den) (λ _. Weighs units num den w) r
scale_stood {U} units num den scale w r same a b =
    let s = accepted (scale_refusal units num den) (λ s. s ≡ scale_of units num den) scale a in
    let c : Answers {A = U} (weight_refusal scale units num den) (λ _. Weighs units num den w) r =
    weaker (weight_refusal scale units num den) _ _ r
    (λ u have. record { scale_is = same ∙ s.1; have_weights = subst (λ n. HaveWeights units num den n (weights_in w)) (sym same) have }) b in
    let d : Answers {A = U} (weight_refusal (scale_of units num den) units num den) (λ _. Weighs units num den w) r =
    subst (λ n. Answers {A = U} (weight_refusal n units num den) (λ _. Weighs units num den w) r) s.1 c in
    subst (λ o. Answers {A = U} (or_else o (or_else (weight_refusal (scale_of units num den) units num den) None)) (λ _. Weighs units num den w) r) (sym s.0)
    (subst (λ o. Answers {A = U} o (λ _. Weighs units num den w) r) (sym (none_after (weight_refusal (scale_of units num den) units num den))) d)

-- no design has begun on more units than a list may have rows
pub capped : {D : Type 0} (G : Design.Ghosts D) (d : D) (u units : ℕ) (Q : ℕ → (ℕ → ℕ) → (ℕ → ℕ) → Type 0) → (units ≤ 1024 → u ≡ units)
    → OfPrescribed G d u (Q u) → OfPrescribed G d units (Q units)
capped G d u units Q same a list num run h =
    subst (λ n. JustBegun (G.tree d) n list num run → Q n num run.denominator) (same (omega (arith, h.all, h.sound.few_rows))) (a list num run) h
