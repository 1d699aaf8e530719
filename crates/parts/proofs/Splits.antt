-- Parts that rise, from one of them on.
use Rattle.std.proofs.Common.{◌≡◌, ℕ, zero, suc, ◌+◌, ◌-◌, ◌≤◌, cond, List, [], ◌∷◌, length, drop, ap, ◌∙◌, subst, ap₂, arith}
use Rattle.parts.specs.Parts.{Part, place_of}
use Rattle.design.specs.Plans.{Plans}
use Rattle.parts.specs.Series.{plan_for, per_unit}
use Rattle.parts.specs.Bounds.{Accepted, AllAccepted}
use Rattle.parts.proofs.Chains.{Apart, Unless, Inside}
use Rattle.parts.proofs.Holds.{holds_past}

nothing : {p : Part} {ps : List Part} → ◌≡◌ {A = List Part} [] (p ∷ ps) → ⊥
nothing e = let z : ◌≡◌ {A = ℕ} 0 1 = cc in omega arith

head_same : {p q : Part} {ps qs : List Part} → (p ∷ ps) ≡ (q ∷ qs) → p ≡ q
head_same e = cc

tail_same : {p q : Part} {ps qs : List Part} → (p ∷ ps) ≡ (q ∷ qs) → ps ≡ qs
tail_same e = cc

pub apart_split : (ps : List Part) (i a e : ℕ) (p : Part) (qs : List Part) → Apart a ps e → drop i ps ≡ p ∷ qs → (a ≤ p.at) × Apart (p.at + length p.rows) qs e
apart_split [] zero a e p qs h d = absurd (nothing d)
apart_split [] (suc i) a e p qs h d = absurd (nothing d)
apart_split (q ∷ ps) zero a e p qs h d =
    subst (λ (x : Part). (a ≤ x.at) × Apart (x.at + length x.rows) qs e) (head_same d)
    (subst (λ (x : List Part). (a ≤ q.at) × Apart (q.at + length q.rows) x e) (tail_same d) (h.0, h.2))
apart_split (q ∷ ps) (suc i) a e p qs h d =
    let g = apart_split ps i (q.at + length q.rows) e p qs h.2 d in (omega (arith, h.0, g.0), g.1)

-- a unit from there on has its numbers and its place among the parts from there on
pub units_split : (f : Part → ℕ → ℕ) (ps : List Part) (i j a e k : ℕ) (p : Part) (qs : List Part) → Apart a ps e → drop i ps ≡ p ∷ qs → p.at ≤ k
    → (per_unit f ps k ≡ per_unit f (p ∷ qs) k) × (place_of j ps k ≡ place_of (j + i) (p ∷ qs) k)
units_split f [] zero j a e k p qs h d l = absurd (nothing d)
units_split f [] (suc i) j a e k p qs h d l = absurd (nothing d)
units_split f (q ∷ ps) zero j a e k p qs h d l =
    (ap (λ (x : List Part). per_unit f x k) d, ap₂ (λ (m : ℕ) (x : List Part). place_of m x k) (plus j) d)
  where
    plus : (j : ℕ) → j ≡ j + 0
    plus j = omega arith
units_split f (q ∷ ps) (suc i) j a e k p qs h d l =
    let g = apart_split ps i (q.at + length q.rows) e p qs h.2 d in
    let out = holds_past q k (omega (arith, g.0)) in
    let r = units_split f ps i (suc j) (q.at + length q.rows) e k p qs h.2 d l in (
      ap (λ b. cond b (f q (k - q.at)) (per_unit f ps k)) out ∙ r.0,
      ap (λ b. cond b j (place_of (suc j) ps k)) out ∙ r.1 ∙ ap (λ m. place_of m (p ∷ qs) k) (shift j i),
    )
  where
    shift : (j i : ℕ) → suc j + i ≡ j + suc i
    shift j i = omega arith

pub inside_split : (ps : List Part) (i a e k : ℕ) (p : Part) (qs : List Part) → Apart a ps e → drop i ps ≡ p ∷ qs → p.at ≤ k → Inside ps k → Inside (p ∷ qs) k
inside_split [] zero a e k p qs h d l x = absurd (nothing d)
inside_split [] (suc i) a e k p qs h d l x = absurd (nothing d)
inside_split (q ∷ ps) zero a e k p qs h d l x = subst (λ (y : List Part). Inside y k) d x
inside_split (q ∷ ps) (suc i) a e k p qs h d l x =
    let g = apart_split ps i (q.at + length q.rows) e p qs h.2 d in
    inside_split ps i (q.at + length q.rows) e k p qs h.2 d l (subst (λ b. Unless b (Inside ps k)) (holds_past q k (omega (arith, g.0))) x)

pub accepted_split : (B : Plans) (ps : List Part) (i : ℕ) (p : Part) (qs : List Part) → AllAccepted B ps → drop i ps ≡ p ∷ qs → Accepted (plan_for B p) × AllAccepted B qs
accepted_split B [] zero p qs ok d = absurd (nothing d)
accepted_split B [] (suc i) p qs ok d = absurd (nothing d)
accepted_split B (q ∷ ps) zero p qs ok d = subst (λ (x : List Part). AllAccepted B x) d ok
accepted_split B (q ∷ ps) (suc i) p qs ok d = accepted_split B ps i p qs ok.1 d
