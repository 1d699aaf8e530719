-- The first number that passes a test, and the refusals made of it.
use Rattle.std.proofs.Common.{◌≡◌, ℕ, zero, suc, ◌+◌, ◌^◌, ◌<◌, ◌≤◌, Bool, true, false, cond, List, length, slice_index_or, Some, None, Ok, Err, Option, Result, IfSome, sym, refl, ap, ◌∙◌, subst, ap₂, add-one, arith}
use Rattle.std.specs.List.{position, position_or_len}
use Rattle.std.proofs.lemmas.Grind.{common_steps}
use Rattle.std.proofs.lemmas.List.Sums.{fails_before_first}
use Rattle.std.proofs.lemmas.List.Quantifiers.{position-Some}
use native.Mathlib.Decide.{ℕ_discrete}
use Rattle.design.specs.declared.fault.Fault.{Fault}
use Rattle.design.specs.Faults.{Refusal, numbered, refusal_at, Answers, or_else, refused_if, refused_at}
use Rattle.design.specs.Lists.{first}

nothing : {X Y : Type 0} (x : X) → ◌≡◌ {A = Option X} (Some x) None → Y
nothing x e = absurd (let z : ◌≡◌ {A = ℕ} 0 1 = cc in omega arith)

-- ---- the first number that passes
pub first_more : (i : ℕ) (p : ℕ → Bool) → first i p ≡ None → p i ≡ false → first (i + 1) p ≡ None
first_more i p e f = rw add-one (ap (λ o. or_else o (cond (p i) (Some i) None)) e ∙ ap (λ b. cond b (Some i) None) f)

pub first_here : (n i : ℕ) (p : ℕ → Bool) → first i p ≡ None → p i ≡ true → i < n → first n p ≡ Some i
first_here zero i p e f l = absurd (omega arith)
first_here (suc m) i p e f l = elim (ℕ_discrete i m) [
  | yes same ↦
      ap (λ o. or_else o (cond (p m) (Some m) None)) (subst (λ x. first x p ≡ None) same e)
      ∙ ap (λ b. cond b (Some m) None) (subst (λ x. p x ≡ true) same f) ∙ ap Some (sym same)
  | no other ↦ ap (λ o. or_else o (cond (p m) (Some m) None)) (first_here m i p e f (omega arith))
]

pub neither : {X : Type 0} (x y : Option X) → or_else x y ≡ None → (x ≡ None) × (y ≡ None)
neither None y e = (refl, e)
neither (Some x) y e = nothing x e

pub first_none : (n : ℕ) (p : ℕ → Bool) → first n p ≡ None → (k : ℕ) → k < n → p k ≡ false
first_none zero p e k l = absurd (omega arith)
first_none (suc m) p e k l = elim (ℕ_discrete k m) [
  | yes same ↦ subst (λ x. p x ≡ false) (sym same) (failed (p m) (neither _ _ e).1)
  | no other ↦ first_none m p (neither _ _ e).0 k (omega arith)
]
  where
    failed : (b : Bool) → cond b (Some m) None ≡ None → b ≡ false
    failed true e = nothing m e
    failed false e = refl

pub first_fewer : (n i : ℕ) (p : ℕ → Bool) → n ≤ i → first i p ≡ None → first n p ≡ None
first_fewer zero i p l e = refl
first_fewer (suc n) i p l e =
    ap₂ (λ (o : Option ℕ) (b : Bool). or_else o (cond b (Some n) None)) (first_fewer n i p (omega arith) e) (first_none i p e n (omega arith))

pub first_below : (n : ℕ) (p : ℕ → Bool) (k : ℕ) → first n p ≡ Some k → k < n
first_below zero p k e = nothing k (sym e)
first_below (suc m) p k e = by (first_below m p k) (first m p) refl e
  where
    last : (b : Bool) → cond b (Some m) None ≡ Some k → k < suc m
    last true e = let z : m ≡ k = cc in omega arith
    last false e = nothing k (sym e)

    by : (first m p ≡ Some k → k < m) → (o : Option ℕ) → first m p ≡ o → or_else o (cond (p m) (Some m) None) ≡ Some k → k < suc m
    by before None f e = last (p m) e
    by before (Some j) f e = omega (arith, before (f ∙ e))

pub none_first : (n : ℕ) (p : ℕ → Bool) → ((k : ℕ) → k < n → p k ≡ false) → first n p ≡ None
none_first zero p h = refl
none_first (suc m) p h = subst (λ i. first i p ≡ None) (add-one m) (first_more m p (none_first m p (λ k l. h k (omega arith))) (h m (omega arith)))

-- the first item of a list that passes stands at the first number whose item passes
pub first_item : {X : Type 0} (p : X → Bool) (xs : List X) (d : X) → position p xs ≡ first (length xs) (λ k. p (slice_index_or xs k d))
first_item p xs d = by (position p xs) refl
  where
    at : ℕ → Bool
    at k = p (slice_index_or xs k d)

    by : (o : Option ℕ) → position p xs ≡ o → o ≡ first (length xs) at
    by (Some i) e =
        let h = position-Some p xs i d e in
        sym (first_here (length xs) i at (none_first i at h.2) h.1 h.0)
    by None e =
        let all : length xs ≤ position_or_len p xs = grind (arith, common_steps) in
        sym (none_first (length xs) at (λ k l. fails_before_first p xs k d (omega arith)))

-- ---- checks
pub not_refused : (b : Bool) (number : ℕ) → refused_if b number ≡ None → b ≡ false
not_refused true number e = nothing _ e
not_refused false number e = refl

pub no_row : (o : Option ℕ) (number : ℕ) → refused_at o number ≡ None → o ≡ None
no_row None number e = refl
no_row (Some k) number e = nothing _ e

pub answers_at : {U : Type 0} (number : ℕ) (o : Option ℕ) (k : ℕ) (Q : U → Type 0) (f : Fault) → o ≡ Some k → numbered f ≡ refusal_at number k
    → Answers {A = U} (refused_at o number) Q (Err f)
answers_at {U} number o k Q f e is = subst (λ x. Answers {A = U} (refused_at x number) Q (Err f)) (sym e) is

-- a row that is the first of so few to pass a test
pub few_rows : (n : ℕ) (p : ℕ → Bool) (o : Option ℕ) → o ≡ first n p → n ≤ 1024 → IfSome o (λ k. k < 2 ^ 32)
few_rows n p None e l = tt
few_rows n p (Some k) e l = omega (arith, first_below n p k (sym e))

pub refuses_first : {U : Type 0} (n : ℕ) (p : ℕ → Bool) (o : Option ℕ) (number : ℕ) (r : Result U Fault) → n ≤ 1024
    → (IfSome o (λ k. k < 2 ^ 32) → Answers (refused_at o number) (λ _. Unit {0}) r) → o ≡ first n p → Answers (refused_at (first n p) number) (λ _. Unit {0}) r
refuses_first n p o number r l a e = subst (λ x. Answers (refused_at x number) (λ _. Unit {0}) r) e (a (few_rows n p o e l))

-- ---- answers
pub accepted : {U : Type 0} (o : Option Refusal) (Q : U → Type 0) (u : U) → Answers {A = U} o Q (Ok u) → (o ≡ None) × Q u
accepted None Q u a = (refl, a)
accepted (Some f) Q u a = absurd a

pub refused_by : {U : Type 0} (o : Option Refusal) (Q : U → Type 0) (e : Fault) → Answers {A = U} o Q (Err e) → o ≡ Some (numbered e)
refused_by None Q e a = absurd a
refused_by (Some f) Q e a = ap Some (sym a)
