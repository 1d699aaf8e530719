-- What makers answer, one setting after another.
use Rattle.std.proofs.Common.{◌≡◌, [], ◌∷◌, None, Some, Ok, Err, Option, Result, IsErrAnd, sym, subst}
use Rattle.design.specs.Faults.{Refusal, or_else, first_of}
use Rattle.design.specs.Idle.{IsIdle}
use Rattle.design.specs.Plans.{Plans}
use Rattle.design.specs.declared.design.Design as Design
use Rattle.design.proofs.Firsts.{accepted}
use Rattle.piles.specs.Making.{Makes}
use Rattle.piles.specs.declared.making.Unmade.{Unmade}
use Rattle.piles.specs.declared.making.Unmade.TheVariants.{Refused, OutOfMemory}

-- where a setting was accepted, the others are looked at
makes_next : {A B : Type 0} (o rest : Option Refusal) (P : A → Type 0) (Q : B → Type 0) (a : A) (r : Result B Unmade) → Makes o P (Ok a) → Makes rest Q r
    → Makes (or_else o rest) Q r
makes_next o rest P Q a r made h = subst (λ o. Makes (or_else o rest) Q r) (sym (accepted o P a made).0) h

-- where it was not, they are not
unmade_so : {A B : Type 0} (o rest : Option Refusal) (P : A → Type 0) (Q : B → Type 0) (e : Unmade) → Makes o P (Err e) → Makes (or_else o rest) Q (Err e)
unmade_so None rest P Q (Refused fault) h = absurd h
unmade_so (Some f) rest P Q (Refused fault) h = h
unmade_so o rest P Q OutOfMemory h = tt

pub unmade_next : {A B C : Type 0} (o next rest : Option Refusal) (P : A → Type 0) (R : B → Type 0) (Q : C → Type 0) (a : A) (e : Unmade) (r : Result C Unmade)
    → IsErrAnd r (λ y. y ≡ e) → Makes o P (Ok a) → Makes next R (Err e) → Makes (or_else o (or_else next rest)) Q r
unmade_next o next rest P R Q a e (Ok c) is made h = absurd is
unmade_next o next rest P R Q a e (Err y) is made h =
    makes_next o (or_else next rest) P Q a (Err y) made (subst (λ e. Makes (or_else next rest) Q (Err e)) (sym is) (unmade_so next rest R Q e h))

-- where no other is left, it alone counts
makes_last : {A : Type 0} (o : Option Refusal) (Q : A → Type 0) (r : Result A Unmade) → Makes o Q r → Makes (first_of (o ∷ [])) Q r
makes_last None Q r h = h
makes_last (Some f) Q r h = h

-- the plans of a design that was made are those promised
plans_are : {A : Type 0} (G : Design.Ghosts A) (p : Plans) (o : Option Refusal) (a : A) → Makes o (IsIdle G p) (Ok a) → G.plan a ≡ p
plans_are G p o a made = (accepted o (IsIdle G p) a made).1.plans_are

-- a layer with the plans f, made after the design a below it
pub makes_over : {A B : Type 0} (G : Design.Ghosts A) (H : Design.Ghosts B) (f : Plans → Plans) (p : Plans) (o last : Option Refusal) (a : A) (r : Result B Unmade)
    → Makes o (IsIdle G p) (Ok a) → Makes last (IsIdle H (f (G.plan a))) r → Makes (first_of (o ∷ last ∷ [])) (IsIdle H (f p)) r
makes_over G H f p o last a r made h =
    let Q = IsIdle H (f p) in
    makes_next o (first_of (last ∷ [])) (IsIdle G p) Q a r made
    (makes_last last Q r (subst (λ q. Makes last (IsIdle H (f q)) r) (plans_are G p o a made) h))

-- a layer with the plans f, made after the designs a and b below it
pub makes_over_two : {A B C : Type 0} (G : Design.Ghosts A) (K : Design.Ghosts B) (H : Design.Ghosts C) (f : Plans → Plans → Plans) (p q : Plans)
    (o next last : Option Refusal) (a : A) (b : B) (r : Result C Unmade)
    → Makes o (IsIdle G p) (Ok a) → Makes next (IsIdle K q) (Ok b) → Makes last (IsIdle H (f (G.plan a) (K.plan b))) r
    → Makes (first_of (o ∷ next ∷ last ∷ [])) (IsIdle H (f p q)) r
makes_over_two G K H f p q o next last a b r first second h =
    makes_next o (first_of (next ∷ last ∷ [])) (IsIdle G p) (IsIdle H (f p q)) a r first
    (makes_over K H (f p) q next last b r second (subst (λ p. Makes last (IsIdle H (f p (K.plan b))) r) (plans_are G p o a first) h))
