-- Adding the units taken of a finished run.
use Rattle.std.proofs.Common.{◌≡◌, refl, ℕ, zero, suc, ◌+◌, ◌<◌, ◌≤◌, Bool, true, false, cond, not, T, ℤ, List, None, Ok, Err, sym, ap, subst, ◌∙◌, add-one, leb, [], ◌∷◌, arith, replicate, pos, length}
use Rattle.std.proofs.lemmas.Bool.{le-ltb, lt-leb}
use Rattle.outcomes.specs.Sums.{count}
use Rattle.outcomes.specs.Trees.{Sample, Always}
use Rattle.design.specs.Faults.{Answers, first_of, refused_if}
use Rattle.design.specs.Design.{Standing, Taken}
use Rattle.design.specs.declared.fault.Fault.{Fault}
use Rattle.totals.specs.Additions.{add_refusal}
use Rattle.totals.specs.Rows.{raised, zeros}
use Rattle.plain_survey.specs.Reports.{added}
use Rattle.survey.specs.Adding.{Finished}

-- a unit of a finished run is taken exactly if the outcome holds it
pub taken_is : (st : Standing) (units : ℕ) (u : Sample) (k : ℕ) (b : Bool) → Finished st units u → Taken st k (Ok b) → b ≡ u k
taken_is st units u k b f taken =
    let h = subst (λ s. Taken s k (Ok b)) f.stands taken in
    same b (u k) (λ t. subst (Always k) f.done (h.1.0 t)) (λ t. h.1.1 (subst (Always k) (sym f.done) t))
  where
    same : (a b : Bool) → (T a → T b) → (T b → T a) → a ≡ b
    same true true f g = refl
    same false false f g = refl
    same true false f g = absurd (f tt)
    same false true f g = absurd (g tt)

pub count_few : (k : ℕ) (u : Sample) → count k u ≤ k
count_few zero u = omega arith
count_few (suc k) u = go (u k) (count_few k u)
  where
    go : (b : Bool) → count k u ≤ k → count k u + cond b 1 0 ≤ suc k
    go true h = omega arith
    go false h = omega arith

-- an addition that nothing speaks against is admitted
pub admitted : (w : ℕ) (lawful : Bool) (additions : ℕ) → w ≤ 1000000000 → lawful ≡ true → additions < 1024 → add_refusal w lawful additions ≡ None
admitted w lawful additions l e few =
    ap (λ b. first_of (refused_if b 27 ∷ refused_if (not lawful) 26 ∷ refused_if (leb 1024 additions) 28 ∷ [])) (le-ltb 1000000000 w l)
    ∙ ap (λ b. first_of (refused_if (not b) 26 ∷ refused_if (leb 1024 additions) 28 ∷ [])) e
    ∙ ap (λ b. first_of (refused_if b 28 ∷ [])) (lt-leb 1024 additions few)

pub not_refused : (w : ℕ) (lawful : Bool) (additions : ℕ) (f : Fault) → add_refusal w lawful additions ≡ None → Answers {A = Unit {0}} (add_refusal w lawful additions) (λ _. Unit {0}) (Err f) → ⊥
not_refused w lawful additions f e a = subst (λ r. Answers {A = Unit {0}} r (λ _. Unit {0}) (Err f)) e a

-- one unit more
pub count_more : (k : ℕ) (u : Sample) (b : Bool) (now next : ℕ) → b ≡ u k → now ≡ count k u → next ≡ now + cond b 1 0 → next ≡ count (k + 1) u
count_more k u b now next e h is =
    is ∙ ap (λ x. x + cond b 1 0) h ∙ ap (λ c. count k u + cond c 1 0) e ∙ ap (λ x. count x u) (sym (add-one k))

pub added_more : (k : ℕ) (u : Sample) (w : ℕ → ℕ) (rows : ℕ → List ℤ) (es now next : List ℤ) (b : Bool) → b ≡ u k → now ≡ added k u w rows es → next ≡ cond b (raised (w k) now (rows k)) now
    → next ≡ added (k + 1) u w rows es
added_more k u w rows es now next b e h is =
    is ∙ ap (λ x. cond b (raised (w k) x (rows k)) x) h ∙ ap (λ c. cond c (raised (w k) (added k u w rows es) (rows k)) (added k u w rows es)) e ∙ ap (λ x. added x u w rows es) (sym (add-one k))

-- a total that is cleared has as many zeros as the kind fixes
pub cleared : (entries : List ℤ) (width : ℕ) → length entries ≡ width → zeros entries ≡ replicate width (pos 0)
cleared [] zero e = refl
cleared [] (suc width) e = absurd (omega (arith, e))
cleared (x ∷ entries) zero e = absurd (omega (arith, e))
cleared (x ∷ entries) (suc width) e = ap (λ zs. pos 0 ∷ zs) (cleared entries width (omega (arith, e)))
