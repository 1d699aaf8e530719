-- The parts are the runs of rows that are alike.
use Rattle.std.proofs.Common.{◌≡◌, ℕ, suc, ◌+◌, ◌-◌, ◌<◌, ◌≤◌, Bool, true, false, cond, leb, ◌↔◌, List, [], ◌∷◌, length, sym, refl, ap, ◌∙◌, subst, inl, inr, arith, le-leb}
use mathlib.Core.Bool.{false≢true}
use borrow.Author.Tests.{lt-leb}
use Rattle.std.proofs.lemmas.Bool.{cases_lt}
use Rattle.design.specs.Lists.{row_at}
use Rattle.design.specs.declared.row.Row.{Row}
use Rattle.parts.specs.Parts.{starts, bounds}
use Rattle.parts.proofs.Chains.{seats}
use Rattle.parts.specs.Laws.{PartsAreRuns}
use Rattle.parts.proofs.Cuts.{rising_bounds, seat_place}

-- where all bounds are past k, its seat is the first
none_seated : (alike : Row → Row → Bool) (i : ℕ) (q : Row) (rs : List Row) (k : ℕ) → k < i → seats (starts alike i q rs) k ≡ 0
unfolding starts seats
none_seated alike i q [] k l = ap (λ t. cond t 1 0) (lt-leb i k l)
none_seated alike i q (r ∷ rs) k l = by (alike q r) (none_seated alike (suc i) r rs k (omega arith))
  where
    by : (b : Bool) → seats (starts alike (suc i) r rs) k ≡ 0 → seats (cond b (starts alike (suc i) r rs) (i ∷ starts alike (suc i) r rs)) k ≡ 0
    by true h = h
    by false h = ap (λ t. cond t (suc (seats (starts alike (suc i) r rs) k)) 0) (lt-leb i k l)

-- the row i - 1 is q, and those of rs follow it
run : (alike : Row → Row → Bool) (i : ℕ) (q : Row) (rs : List Row) (k : ℕ) → i ≤ k + 1 → k + 1 < i + length rs
    → (seats (starts alike i q rs) k ≡ seats (starts alike i q rs) (k + 1)) ↔ (alike (row_at (q ∷ rs) (k + 1 - i)) (row_at (q ∷ rs) (k + 2 - i)) ≡ true)
unfolding starts seats
run alike i q [] k a b = absurd (omega arith)
run alike i q (r ∷ rs) k a b = elim (cases_lt k i) [
  | inl first ↦ here (alike q r) refl (at_start first)
  | inr later ↦ after (alike q r) later (run alike (suc i) r rs k (omega arith) (omega arith))
]
  where
    S : List ℕ
    S = starts alike (suc i) r rs

    at_start : k < i → k + 1 ≡ i
    at_start l = omega arith

    here : (b : Bool) → alike q r ≡ b → k + 1 ≡ i
        → (seats (cond b (starts alike (suc i) r rs) (i ∷ starts alike (suc i) r rs)) k ≡ seats (cond b (starts alike (suc i) r rs) (i ∷ starts alike (suc i) r rs)) (k + 1))
        ↔ (alike (row_at (q ∷ r ∷ rs) (k + 1 - i)) (row_at (q ∷ r ∷ rs) (k + 2 - i)) ≡ true)
    here b e is =
        let x : k + 1 - i ≡ 0 = omega arith in
        let y : k + 2 - i ≡ 1 = omega arith in
        subst (λ m. (seats (cond b (starts alike (suc i) r rs) (i ∷ starts alike (suc i) r rs)) k ≡ seats (cond b (starts alike (suc i) r rs) (i ∷ starts alike (suc i) r rs)) (k + 1))
        ↔ (alike (row_at (q ∷ r ∷ rs) m) (row_at (q ∷ r ∷ rs) (k + 2 - i)) ≡ true)) (sym x)
        (subst (λ m. (seats (cond b (starts alike (suc i) r rs) (i ∷ starts alike (suc i) r rs)) k ≡ seats (cond b (starts alike (suc i) r rs) (i ∷ starts alike (suc i) r rs)) (k + 1))
        ↔ (alike q (row_at (q ∷ r ∷ rs) m) ≡ true)) (sym y) (both b e))
      where
        both : (b : Bool) → alike q r ≡ b
            → (seats (cond b (starts alike (suc i) r rs) (i ∷ starts alike (suc i) r rs)) k ≡ seats (cond b (starts alike (suc i) r rs) (i ∷ starts alike (suc i) r rs)) (k + 1)) ↔ (alike q r ≡ true)
        both true e = (
          λ _. e,
          λ _. none_seated alike (suc i) r rs k (omega arith) ∙ sym (none_seated alike (suc i) r rs (k + 1) (omega arith)),
        )
        both false e = (
          λ h.
              let z : ◌≡◌ {A = ℕ} 0 (suc (seats (starts alike (suc i) r rs) (k + 1))) =
              sym (ap (λ t. cond t (suc (seats (starts alike (suc i) r rs) k)) 0) (lt-leb i k (omega arith))) ∙ h
              ∙ ap (λ t. cond t (suc (seats (starts alike (suc i) r rs) (k + 1))) 0) (le-leb i (k + 1) (omega arith)) in
              absurd (omega (arith, z)),
          λ h. absurd (false≢true (sym e ∙ h)),
        )

    after : (b : Bool) → i ≤ k
        → (seats (starts alike (suc i) r rs) k ≡ seats (starts alike (suc i) r rs) (k + 1)) ↔ (alike (row_at (r ∷ rs) (k + 1 - suc i)) (row_at (r ∷ rs) (k + 2 - suc i)) ≡ true)
        → (seats (cond b (starts alike (suc i) r rs) (i ∷ starts alike (suc i) r rs)) k ≡ seats (cond b (starts alike (suc i) r rs) (i ∷ starts alike (suc i) r rs)) (k + 1))
        ↔ (alike (row_at (q ∷ r ∷ rs) (k + 1 - i)) (row_at (q ∷ r ∷ rs) (k + 2 - i)) ≡ true)
    after b l ih =
        let x : k + 1 - i ≡ suc (k + 1 - suc i) = omega arith in
        let y : k + 2 - i ≡ suc (k + 2 - suc i) = omega arith in
        subst (λ m. (seats (cond b (starts alike (suc i) r rs) (i ∷ starts alike (suc i) r rs)) k ≡ seats (cond b (starts alike (suc i) r rs) (i ∷ starts alike (suc i) r rs)) (k + 1))
        ↔ (alike (row_at (q ∷ r ∷ rs) m) (row_at (q ∷ r ∷ rs) (k + 2 - i)) ≡ true)) (sym x)
        (subst (λ m. (seats (cond b (starts alike (suc i) r rs) (i ∷ starts alike (suc i) r rs)) k ≡ seats (cond b (starts alike (suc i) r rs) (i ∷ starts alike (suc i) r rs)) (k + 1))
        ↔ (alike (row_at (r ∷ rs) (k + 1 - suc i)) (row_at (q ∷ r ∷ rs) m) ≡ true)) (sym y) (both b))
      where
        both : (b : Bool)
            → (seats (cond b (starts alike (suc i) r rs) (i ∷ starts alike (suc i) r rs)) k ≡ seats (cond b (starts alike (suc i) r rs) (i ∷ starts alike (suc i) r rs)) (k + 1))
            ↔ (alike (row_at (r ∷ rs) (k + 1 - suc i)) (row_at (r ∷ rs) (k + 2 - suc i)) ≡ true)
        both true = ih
        both false = (
          λ h. ih.0 (omega (arith, one k (omega arith), one (k + 1) (omega arith), h)),
          λ h. one k (omega arith) ∙ ap suc (ih.1 h) ∙ sym (one (k + 1) (omega arith)),
        )
          where
            one : (n : ℕ) → i ≤ n → cond (leb i n) (suc (seats (starts alike (suc i) r rs) n)) 0 ≡ suc (seats (starts alike (suc i) r rs) n)
            one n le = ap (λ t. cond t (suc (seats (starts alike (suc i) r rs) n)) 0) (le-leb i n le)

pub parts_are_runs : PartsAreRuns
unfolding bounds
parts_are_runs alike sample [] k l = absurd (omega arith)
parts_are_runs alike sample (r ∷ rs) k l =
    let rising = rising_bounds alike (r ∷ rs) (omega arith) in
    let here = seat_place sample (r ∷ rs) (bounds alike (r ∷ rs)) k rising (omega arith) in
    let next = seat_place sample (r ∷ rs) (bounds alike (r ∷ rs)) (k + 1) rising l in
    let law = run alike 1 r rs k (omega arith) (omega arith) in
    let x : k + 1 - 1 ≡ k = omega arith in
    let y : k + 2 - 1 ≡ k + 1 = omega arith in
    let same = subst (λ m. (seats (starts alike 1 r rs) k ≡ seats (starts alike 1 r rs) (k + 1)) ↔ (alike (row_at (r ∷ rs) m) (row_at (r ∷ rs) (k + 1)) ≡ true)) x
    (subst (λ m. (seats (starts alike 1 r rs) k ≡ seats (starts alike 1 r rs) (k + 1)) ↔ (alike (row_at (r ∷ rs) (k + 1 - 1)) (row_at (r ∷ rs) m) ≡ true)) y law) in
    (λ h. same.0 (here ∙ h ∙ sym next), λ h. sym here ∙ same.1 h ∙ next)
