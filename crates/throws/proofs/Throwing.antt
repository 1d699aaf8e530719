-- When a throw is dry, which words it passes over, and how often each answer stands among the words that serve.
use Rattle.std.proofs.Common.{◌≡◌, ℕ, zero, suc, ◌+◌, ◌*◌, ◌/◌, ◌%◌, ◌^◌, ◌<◌, Bool, true, false, cond, eqb, ltb, List, [], ◌∷◌, ◌++◌, Ok, Err, sym, refl, ap, ◌∙◌, mod-eq_of_lt, mod-lt, arith}
use native.Mathlib.Nat.{add-mul-mod_self_right}
use Rattle.std.proofs.lemmas.Bool.{ltb-true, ltb-false, le-ltb, eq-eqb, ne_eqb, cond-true}
use Rattle.outcomes.specs.Sums.{sum, count}
use Rattle.outcomes.proofs.Sums.{sum_same, sum_single, sum_split}
use Rattle.design.specs.Faults.{refusal}
use Rattle.throws.specs.Words.{limit, serving, remainder, rest, in_range, thrown}
use Rattle.throws.specs.Laws.{AllFrom, DryExactly, EachAsOften, PassedOver}

-- ---- an answer is below the ways
remainder_below : (m : ℕ) (ws : List ℕ) (d : ℕ) → 0 < m → remainder m ws ≡ Ok d → d < m
remainder_below m [] d l e = absurd (let z : ◌≡◌ {A = ℕ} 0 1 = cc in (let y : ⊥ = omega arith in y))
remainder_below m (w ∷ ws) d l e = let same : w % m ≡ d = cc in omega (arith, same, mod-lt w l)

pub thrown_below : (m : ℕ) (ws : List ℕ) (d : ℕ) → thrown m ws ≡ Ok d → d < m
thrown_below zero ws d e = absurd (let z : ◌≡◌ {A = ℕ} 0 1 = cc in (let y : ⊥ = omega arith in y))
thrown_below (suc m) ws d e = go (in_range (suc m)) e
  where
    go : (b : Bool) → cond b (remainder (suc m) (serving (limit (suc m)) ws)) (Err (refusal 20)) ≡ Ok d → d < suc m
    go true h = remainder_below (suc m) (serving (limit (suc m)) ws) d (omega arith) h
    go false h = absurd (let z : ◌≡◌ {A = ℕ} 0 1 = cc in (let y : ⊥ = omega arith in y))

-- ---- dry
all_above : (l : ℕ) (ws : List ℕ) → serving l ws ≡ [] → AllFrom l ws
all_above l [] e = tt
all_above l (w ∷ ws) e = go (all_above l ws) (ltb w l) refl e
  where
    go : (serving l ws ≡ [] → AllFrom l ws) → (b : Bool) → ltb w l ≡ b → cond b (w ∷ ws) (serving l ws) ≡ [] → AllFrom l (w ∷ ws)
    go k true t h = absurd (let z : ◌≡◌ {A = ℕ} 0 1 = cc in (let y : ⊥ = omega arith in y))
    go k false t h = (ltb-false w l t, k h)

none_serves : (l : ℕ) (ws : List ℕ) → AllFrom l ws → serving l ws ≡ []
none_serves l [] a = refl
none_serves l (w ∷ ws) a = rw (le-ltb w l a.0) (none_serves l ws a.1)

dry_empty : (m : ℕ) (ws : List ℕ) → remainder m ws ≡ Err (refusal 21) → ws ≡ []
dry_empty m [] e = refl
dry_empty m (w ∷ ws) e = absurd (let z : ◌≡◌ {A = ℕ} 0 1 = cc in (let y : ⊥ = omega arith in y))

pub dry_exactly : DryExactly
dry_exactly m ws r =
    let is = cond-true (in_range m) (remainder m (serving (limit m) ws)) (Err (refusal 20)) r in (
      λ e. all_above (limit m) ws (dry_empty m (serving (limit m) ws) (sym is ∙ e)),
      λ a. let n = none_serves (limit m) ws a in (is ∙ ap (remainder m) n, cond-true (in_range m) (rest (serving (limit m) ws)) ws r ∙ ap rest n),
    )

-- ---- the words before the first that serves are passed over, and `after` waits
abbrev Serving : (l m d : ℕ) (ws after : List ℕ) → Type 0
Serving l m d ws after = (passed : List ℕ) × (w : ℕ) × (ws ≡ passed ++ w ∷ after) × AllFrom l passed × (w < l) × (d ≡ w % m)

first_serves : (l m d : ℕ) (ws : List ℕ) → remainder m (serving l ws) ≡ Ok d → Serving l m d ws (rest (serving l ws))
first_serves l m d [] e = absurd (let z : ◌≡◌ {A = ℕ} 0 1 = cc in (let y : ⊥ = omega arith in y))
first_serves l m d (v ∷ ws) e = go (first_serves l m d ws) (ltb v l) refl e
  where
    go : (remainder m (serving l ws) ≡ Ok d → Serving l m d ws (rest (serving l ws)))
        → (b : Bool) → ltb v l ≡ b → remainder m (cond b (v ∷ ws) (serving l ws)) ≡ Ok d
        → Serving l m d (v ∷ ws) (rest (cond b (v ∷ ws) (serving l ws)))
    go k true t h = ([], v, refl, tt, ltb-true v l t, cc)
    go k false t h = let f = k h in (v ∷ f.0, f.1, ap (λ xs. v ∷ xs) f.2, (ltb-false v l t, f.3), f.4, f.5)

thrown_in_range : (m : ℕ) (ws : List ℕ) (d : ℕ) → thrown m ws ≡ Ok d → in_range m ≡ true
thrown_in_range m ws d e = go (in_range m) e
  where
    go : (b : Bool) → cond b (remainder m (serving (limit m) ws)) (Err (refusal 20)) ≡ Ok d → b ≡ true
    go true h = refl
    go false h = absurd (let z : ◌≡◌ {A = ℕ} 0 1 = cc in (let y : ⊥ = omega arith in y))

pub passed_over : PassedOver
passed_over m ws d e =
    let r = thrown_in_range m ws d e in
    let f = first_serves (limit m) m d ws (sym (cond-true (in_range m) (remainder m (serving (limit m) ws)) (Err (refusal 20)) r) ∙ e) in record {
      passed = f.0;
      word = f.1;
      waited = f.2 ∙ ap (λ after. f.0 ++ f.1 ∷ after) (sym (cond-true (in_range m) (rest (serving (limit m) ws)) ws r));
      too_high = f.3;
      serves = f.4;
      answer = f.5;
    }

-- ---- as often: in each run of m numbers that begins at a multiple of m, d is the remainder of one
once : (m d q : ℕ) → d < m → sum m (λ i. cond (eqb ((q * m + i) % m) d) 1 0) ≡ 1
once m d q l =
    sum_same m (λ i. cond (eqb ((q * m + i) % m) d) 1 0) (λ i. cond (eqb i d) 1 0)
    (λ i li. ap (λ x. cond (eqb x d) 1 0) (ap (λ x. x % m) (swap (q * m) i) ∙ add-mul-mod_self_right i q m ∙ mod-eq_of_lt li))
    ∙ sum_single m (λ i. cond (eqb i d) 1 0) d l (λ j lj other. ap (λ b. cond b 1 0) (ne_eqb j d other))
    ∙ ap (λ b. cond b 1 0) (eq-eqb d d refl)
  where
    swap : (a b : ℕ) → a + b ≡ b + a
    swap a b = omega arith

rounds : (m d q : ℕ) → d < m → count (q * m) (λ w. eqb (w % m) d) ≡ q
rounds m d zero l = ap (λ n. count n (λ w. eqb (w % m) d)) (nothing m)
  where
    nothing : (m : ℕ) → 0 * m ≡ 0
    nothing m = omega arith
rounds m d (suc q) l =
    ap (λ n. count n (λ w. eqb (w % m) d)) (one_more q m)
    ∙ sum_split (q * m) m (λ w. cond (eqb (w % m) d) 1 0)
    ∙ ap (λ x. x + sum m (λ i. cond (eqb ((q * m + i) % m) d) 1 0)) (rounds m d q l)
    ∙ ap (λ x. q + x) (once m d q l) ∙ omega arith
  where
    one_more : (q m : ℕ) → suc q * m ≡ q * m + m
    one_more q m = omega arith

pub each_as_often : EachAsOften
each_as_often m d l = rounds m d (2 ^ 32 / m) l
