-- What a design says of a unit is what the plain survey answers.
use Rattle.std.proofs.Common.{◌≡◌, refl, ℕ, zero, suc, ◌/◌, ◌<◌, ◌≤◌, Bool, true, false, not, ◌&&◌, T, inl, inr, length, List, Ok, Err, Result, sym, ap, subst, ◌∙◌, arith, Some}
use Rattle.std.proofs.Math.Nat.{mul-div_cancel}
use Rattle.std.proofs.lemmas.Bool.{lt-ltb, le-ltb, cases_lt}
use Rattle.outcomes.specs.Trees.{Tree, finished, branching, Sample, Share, Always, Lawful, weight}
use Rattle.outcomes.proofs.Trees.{positive, lawful_ways}
use Rattle.design.specs.Faults.{told, refused_if, refusal}
use Rattle.design.specs.Design.{accepts, Run, in_run, Shared, Taken, Sound, SoundRun}
use Rattle.design.specs.Plans.{Plans, denominator_of}
use Rattle.design.specs.declared.fault.Fault.{Fault}
use Rattle.design.specs.Fractions.{Fraction, fraction}
use Rattle.design.specs.declared.row.Row.{Row}
use Rattle.plain_survey.specs.States.{PlainRun}
use Rattle.plain_survey.specs.Calls.{answer, unit_refusal, all, in_every, taken_answer, share_in, share_now, share_answer}
use Rattle.plain_survey.specs.Laws.{run_at, ExactShares, FirstShares}

-- a numerator that is exact is the one that the rules work out
pub share_is : (units k num den : ℕ) (t : Tree Sample) → Lawful units t → Share k num den t → share_in den t k ≡ fraction num den
share_is units k num den t lawful exact =
    ap (λ n. fraction n den) (ap (λ x. x / weight t) (sym exact) ∙ mul-div_cancel num (positive t (lawful_ways units t lawful)))

pub exact_shares : (P : Plans) (r : PlainRun) → SoundRun (run_at (P r.list r.n) r.list r.tree) → ExactShares P (Some r)
exact_shares P r s k l =
    let e = s.exact k l in
    let same = share_is (length r.list) k e.0 (denominator_of (P r.list r.n) k) r.tree s.lawful e.1 in
    subst (λ f. Share k f.0 f.1 r.tree) (sym same) e.1

pub first_shares : (list : List Row) (num : ℕ → ℕ) (run : Run) → Sound list num run → FirstShares (accepts num run) list
first_shares list num run s k l = share_is (length list) k (num k) (run.denominator k) run.tree s.lawful (s.fair k l)

-- ---- the answers of share and taken
asked : {A : Type 0} (r : PlainRun) (k : ℕ) (a : A) → k < length r.list → answer (unit_refusal r k) a ≡ Ok a
asked r k a l = ap (λ b. answer (refused_if (not b) 19) a) (lt-ltb k (length r.list) l)

not_asked : {A : Type 0} (r : PlainRun) (k : ℕ) (a : A) → length r.list ≤ k → answer (unit_refusal r k) a ≡ Err (refusal 19)
not_asked r k a l = ap (λ b. answer (refused_if (not b) 19) a) (le-ltb k (length r.list) l)

pub share_told : (P : Plans) (r : PlainRun) (k : ℕ) (result : Result Fraction Fault) → SoundRun (run_at (P r.list r.n) r.list r.tree)
    → Shared (in_run (run_at (P r.list r.n) r.list r.tree)) k result → told result ≡ share_answer P (Some r) k
share_told P r k (Ok f) s h =
    let den = denominator_of (P r.list r.n) k in
    let same = share_is (length r.list) k f.0 den r.tree s.lawful h.1.1 in
    ap (λ d. Ok (fraction f.0 d)) h.1.0 ∙ ap Ok (sym same) ∙ sym (asked r k (share_now P r k) h.0)
share_told P r k (Err e) s h = ap Err h.1 ∙ sym (not_asked r k (share_now P r k) h.0)

-- ---- in every outcome
all_from : (n : ℕ) (f : ℕ → Bool) → ((d : ℕ) → d < n → T (f d)) → T (all n f)
all_from zero f h = tt
all_from (suc n) f h = both (all n f) (f n) (all_from n f (λ d l. h d (omega arith))) (h n (omega arith))
  where
    both : (a b : Bool) → T a → T b → T (a && b)
    both true b s t = t
    both false b s t = s

each_of : (n : ℕ) (f : ℕ → Bool) → T (all n f) → (d : ℕ) → d < n → T (f d)
each_of zero f h d l = absurd (omega arith)
each_of (suc n) f h d l = split (all n f) h (λ t q. each_of n f t d q)
  where
    split : (a : Bool) → T (a && f n) → (T a → d < n → T (f d)) → T (f d)
    split true t earlier = elim (cases_lt d n) [ inl q ↦ earlier tt q | inr q ↦ subst (λ x. T (f x)) (let same : n ≡ d = omega arith in same) t ]
    split false t earlier = absurd t

pub always : (k : ℕ) (t : Tree Sample) → T (in_every k t) → Always k t
always k (finished u) h = h
always k (branching m sub) h = λ d l. always k (sub d) (each_of m (λ d. in_every k (sub d)) h d l)

pub found : (k : ℕ) (t : Tree Sample) → Always k t → T (in_every k t)
found k (finished u) h = h
found k (branching m sub) h = all_from m (λ d. in_every k (sub d)) (λ d l. found k (sub d) (h d l))

same_truth : (a b : Bool) → (T a → T b) → (T b → T a) → a ≡ b
same_truth true true f g = refl
same_truth false false f g = refl
same_truth true false f g = absurd (f tt)
same_truth false true f g = absurd (g tt)

pub taken_told : (P : Plans) (r : PlainRun) (k : ℕ) (result : Result Bool Fault)
    → Taken (in_run (run_at (P r.list r.n) r.list r.tree)) k result → told result ≡ taken_answer (Some r) k
taken_told P r k (Ok b) h =
    ap Ok (same_truth b (in_every k r.tree) (λ t. found k r.tree (h.1.0 t)) (λ t. h.1.1 (always k r.tree t))) ∙ sym (asked r k (in_every k r.tree) h.0)
taken_told P r k (Err e) h = ap Err h.1 ∙ sym (not_asked r k (in_every k r.tree) h.0)
