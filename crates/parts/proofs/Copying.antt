-- What is copied out of the design below.
use Rattle.std.proofs.Common.{◌≡◌, ℕ, ◌+◌, ◌-◌, ◌<◌, ◌≤◌, Bool, true, false, cond, ◌&&◌, T, ltb, ◌⊎◌, List, get_or, Ok, Err, Result, sym, refl, ap, ◌∙◌, subst, ap₂, inl, inr, arith, le-ltb, lt-ltb, le-leb}
use borrow.Author.Tests.{lt-leb}
use Rattle.std.specs.Result.{result_unwrap_or}
use Rattle.std.proofs.lemmas.Bool.{cases_lt}
use Rattle.outcomes.specs.Trees.{Tree, finished, branching, Sample, HasWays, Always, ways}
use Rattle.outcomes.proofs.Trees.{average_one}
use Rattle.design.specs.Design.{Plan, refuses, accepts, Standing, no_run, in_run, Shared, Taken}
use Rattle.design.specs.declared.fault.Fault.{Fault}
use Rattle.design.specs.Fractions.{Fraction, fraction}
use Rattle.design.specs.Plans.{share_of, outcome}
use Rattle.parts.specs.Copying.{outcome_of, Over, Fresh, overwritten}

-- ---- answers of the design below
pub finished_is : (t : Tree Sample) → HasWays t → ways t ≡ 0 → t ≡ finished (outcome t)
finished_is (finished u) s e = refl
finished_is (branching m sub) s e = absurd (omega (arith, s.0, e))

same : (a b : Bool) → (T a → T b) → (T b → T a) → a ≡ b
same true true p q = refl
same true false p q = absurd (p tt)
same false true p q = absurd (q tt)
same false false p q = refl

pub flag_is : (st : Standing) (k n : ℕ) (b : Bool) → Taken st k (Ok b) → Over st n → k < n → b ≡ outcome_of st k
flag_is no_run k n b t o l = absurd o
flag_is (in_run r) k n b t o l = by r.tree o.1 o.2 t.1.0 t.1.1
  where
    by : (x : Tree Sample) → HasWays x → ways x ≡ 0 → (T b → Always k x) → (Always k x → T b) → b ≡ outcome x k
    by (finished u) s e p q = same b (u k) p q
    by (branching m sub) s e p q = absurd (omega (arith, s.0, e))

pub flag_found : (st : Standing) (k n : ℕ) (r : Result Bool Fault) (d : Bool) → Taken st k r → Over st n → k < n → result_unwrap_or r d ≡ outcome_of st k
flag_found st k n (Ok b) d t o l = flag_is st k n b t o l
flag_found no_run k n (Err e) d t o l = absurd o
flag_found (in_run r) k n (Err e) d t o l = absurd (omega (arith, t.0, o.0))

pub share_is : (a : Plan) (st : Standing) (k n : ℕ) (s : Fraction) → Shared st k (Ok s) → Fresh a st n → k < n → s ≡ share_of a k
share_is (refuses f) st k n s h w l = absurd w
share_is (accepts num run) st k n s h w l =
    let g : Shared (in_run run) k (Ok s) = subst (λ (x : Standing). Shared x k (Ok s)) w.0 h in
    ap₂ fraction (average_one (λ u. cond (u k) 1 0) s.0 (num k) (run.denominator k) run.tree w.2 g.1.1 (w.3 k l)) g.1.0

pub share_found : (a : Plan) (st : Standing) (k n : ℕ) (r : Result Fraction Fault) (d : Fraction) → Shared st k r → Fresh a st n → k < n → result_unwrap_or r d ≡ share_of a k
share_found a st k n (Ok s) d h w l = share_is a st k n s h w l
share_found (refuses f) st k n (Err e) d h w l = absurd w
share_found (accepts num run) st k n (Err e) d h w l =
    let g : Shared (in_run run) k (Err e) = subst (λ (x : Standing). Shared x k (Err e)) w.0 h in
    absurd (omega (arith, g.0, w.1))

-- ---- values written in their places
module _ {X : Type 0} (f : ℕ → X) where
  pub written_in : (a b k : ℕ) (w : ℕ → X) → a ≤ k → k < b → overwritten f a b w k ≡ w (k - a)
  written_in a b k w l m = ap (λ t. cond t (w (k - a)) (f k)) (ap₂ ◌&&◌ (le-leb a k l) (lt-ltb k b m))

  pub written_before : (a b k : ℕ) (w : ℕ → X) → k < a → overwritten f a b w k ≡ f k
  written_before a b k w l = ap (λ t. cond (t && ltb k b) (w (k - a)) (f k)) (lt-leb a k l)

  pub written_past : (a b k : ℕ) (w : ℕ → X) → b ≤ k → overwritten f a b w k ≡ f k
  written_past a b k w m = by (cases_lt k a)
    where
      by : (k < a) ⊎ (a ≤ k) → overwritten f a b w k ≡ f k
      by (inl l) = written_before a b k w l
      by (inr l) = ap (λ t. cond t (w (k - a)) (f k)) (ap₂ ◌&&◌ (le-leb a k l) (le-ltb k b m))

-- a list in which those places are w, and all others are as before
pub written_by : {X : Type 0} (d : X) (xs ys : List X) (a b : ℕ) (w : ℕ → X) → ((k : ℕ) → k < b - a → get_or ys (a + k) d ≡ w k)
    → ((k : ℕ) → (k < a) ⊎ (b ≤ k) → get_or ys k d ≡ get_or xs k d) → (k : ℕ) → get_or ys k d ≡ overwritten (λ i. get_or xs i d) a b w k
written_by {X} d xs ys a b w here rest k = by (cases_lt k a) (cases_lt k b)
  where
    f : ℕ → X
    f i = get_or xs i d

    by : (k < a) ⊎ (a ≤ k) → (k < b) ⊎ (b ≤ k) → get_or ys k d ≡ overwritten f a b w k
    by (inl l) m = rest k (inl l) ∙ sym (written_before f a b k w l)
    by (inr l) (inl m) =
        let e : k ≡ a + (k - a) = omega arith in
        ap (λ n. get_or ys n d) e ∙ here (k - a) (omega arith) ∙ sym (written_in f a b k w l m)
    by (inr l) (inr m) = rest k (inr m) ∙ sym (written_past f a b k w m)
