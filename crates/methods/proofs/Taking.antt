-- The units taken, when what one unit holds changes, and when one more is called.
use Rattle.std.proofs.Common.{◌≡◌, ℕ, suc, ◌*◌, ◌<◌, ◌≤◌, Bool, true, false, cond, T, eqb, ltb, ◌≢◌, ◌⊎◌, List, length, get_or, set, sym, refl, ap, ◌∙◌, inl, inr, arith}
use mathlib.Core.Path.{fun_ext}
use native.Mathlib.Decide.{ℕ_discrete}
use Rattle.std.proofs.lemmas.Bool.{lt-ltb, le-ltb, ltb-true, eq-eqb, ne_eqb, cases_order, cases_lt}
use Rattle.std.proofs.lemmas.List.{get_or-set_same, get_or-set_other, length-set, set-get_or}
use Rattle.outcomes.specs.Trees.{finished, Sample, with, weight, expect, Share}
use Rattle.methods.specs.Holdings.{taken_of}
use Rattle.methods.proofs.Holdings.{no_way}

pub with_other : (u : Sample) (j k : ℕ) → k ≢ j → with u j k ≡ u k
with_other u j k ne = ap (λ b. cond b true (u k)) (ne_eqb k j ne)

pub with_same : (u : Sample) (j k : ℕ) → k ≡ j → with u j k ≡ true
with_same u j k e = ap (λ b. cond b true (u k)) (eq-eqb k j e)

-- the units taken, once one more has been called
pub one_more : (all : ℕ) (holds : List ℕ) (j x k : ℕ) → j < length holds → taken_of all (set holds j x) (suc j) k ≡ cond (eqb k j) (eqb x all) (taken_of all holds j k)
one_more all holds j x k l = elim (cases_order k j) [
  | inl e ↦
      let a : ltb k (suc j) ≡ true = lt-ltb k (suc j) (omega arith) in
      let b : eqb k j ≡ true = eq-eqb k j e in
      let g : get_or (set holds j x) k 0 ≡ x = ap (λ i. get_or (set holds j x) i 0) e ∙ get_or-set_same holds j x 0 l in
      simp (a, b, g)
  | inr o ↦ elim o [
    | inl e ↦
        let a : ltb k (suc j) ≡ true = lt-ltb k (suc j) (omega arith) in
        let b : eqb k j ≡ false = ne_eqb k j (omega arith) in
        let ne : k ≢ j = omega arith in
        let c : ltb k j ≡ true = lt-ltb k j e in
        let g : get_or (set holds j x) k 0 ≡ get_or holds k 0 = get_or-set_other holds j k x 0 ne in
        simp (a, b, c, g)
    | inr e ↦
        let a : ltb k (suc j) ≡ false = le-ltb k (suc j) (omega arith) in
        let b : eqb k j ≡ false = ne_eqb k j (omega arith) in
        let c : ltb k j ≡ false = le-ltb k j (omega arith) in
        simp (a, b, c)
  ]
]

pub not_yet : (all : ℕ) (holds : List ℕ) (j k : ℕ) → j ≤ k → taken_of all holds j k ≡ false
not_yet all holds j k l = let c : ltb k j ≡ false = le-ltb k j l in simp c

pub not_all : (all : ℕ) (holds : List ℕ) (j k : ℕ) → get_or holds k 0 < all → taken_of all holds j k ≡ false
not_all all holds j k l = by (ltb k j)
  where
    by : (b : Bool) → cond b (eqb (get_or holds k 0) all) false ≡ false
    by true = ne_eqb (get_or holds k 0) all (omega arith)
    by false = refl

pub call_one : (all : ℕ) (holds : List ℕ) (j k : ℕ) → j < length holds → taken_of all holds (suc j) k ≡ cond (eqb k j) (eqb (get_or holds j 0) all) (taken_of all holds j k)
call_one all holds j k l = ap (λ h. taken_of all h (suc j) k) (sym (set-get_or holds j 0)) ∙ one_more all holds j (get_or holds j 0) k l

pub one_set : (all : ℕ) (holds : List ℕ) (i j x k : ℕ) → i < j → i < length holds → taken_of all (set holds i x) j k ≡ cond (eqb k i) (eqb x all) (taken_of all holds j k)
one_set all holds i j x k l m = elim (ℕ_discrete k i) [
  | yes e ↦
      (let a : ltb k j ≡ true = lt-ltb k j (omega arith) in
      let b : eqb k i ≡ true = eq-eqb k i e in
      let g : get_or (set holds i x) k 0 ≡ x = ap (λ n. get_or (set holds i x) n 0) e ∙ get_or-set_same holds i x 0 m in
      simp (a, b, g))
  | no ne ↦
      (let b : eqb k i ≡ false = ne_eqb k i ne in
      let g : get_or (set holds i x) k 0 ≡ get_or holds k 0 = get_or-set_other holds i k x 0 ne in
      simp (b, g))
]

pub two_more : (all : ℕ) (holds : List ℕ) (i j x y k : ℕ) → i < j → j < length holds
    → taken_of all (set (set holds i x) j y) (suc j) k ≡ cond (eqb k j) (eqb y all) (cond (eqb k i) (eqb x all) (taken_of all holds j k))
two_more all holds i j x y k l m =
    let len : length (set holds i x) ≡ length holds = length-set holds i x in
    one_more all (set holds i x) j y k (omega arith)
    ∙ ap (λ b. cond (eqb k j) (eqb y all) b) (one_set all holds i j x k l (omega arith))

-- only a called unit is taken, and none is before the first call
pub taken_called : (all : ℕ) (holds : List ℕ) (called k : ℕ) → T (taken_of all holds called k) → k < called
taken_called all holds called k t = by (ltb k called) refl t
  where
    by : (b : Bool) → ltb k called ≡ b → T (cond b (eqb (get_or holds k 0) all) false) → k < called
    by true e t = ltb-true k called e
    by false e t = absurd t

pub none_called : (all : ℕ) (holds : List ℕ) → (λ _. false) ≡ taken_of all holds 0
none_called all holds = fun_ext (λ k. sym (not_yet all holds 0 k (omega arith)))

-- the share of a called unit that holds all or nothing, where the run has come to its outcome
pub share_settled : (all : ℕ) (holds : List ℕ) (called k : ℕ) → k < called → get_or holds k 0 ≤ all → (get_or holds k 0 < all → get_or holds k 0 ≡ 0)
    → Share k (get_or holds k 0) all (finished (taken_of all holds called))
unfolding weight expect
share_settled all holds called k l within settled = by (ltb k called) (lt-ltb k called l) (cases_lt (get_or holds k 0) all)
  where
    by : (b : Bool) → b ≡ true → (get_or holds k 0 < all) ⊎ (all ≤ get_or holds k 0) → get_or holds k 0 * 1 ≡ all * cond (cond b (eqb (get_or holds k 0) all) false) 1 0
    by false e c = no_way (sym e)
    by true e (inl u) =
        let z : get_or holds k 0 ≡ 0 = settled u in
        let f : eqb (get_or holds k 0) all ≡ false = ne_eqb (get_or holds k 0) all (omega arith) in
        omega (arith, z, ap (λ t. all * cond t 1 0) f)
    by true e (inr u) =
        let z : get_or holds k 0 ≡ all = omega arith in
        let f : eqb (get_or holds k 0) all ≡ true = eq-eqb (get_or holds k 0) all z in
        omega (arith, z, ap (λ t. all * cond t 1 0) f)
