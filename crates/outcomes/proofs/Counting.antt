-- How many starts of a systematic sample have a point in an interval.
use mathlib.Core.Path.{◌≡◌, refl, sym, ap, ◌∙◌}
use mathlib.Core.Bool.{Bool, true, false, cond, false≢true}
use mathlib.Core.Logic.{◌↔◌}
use Prim.Native.Nat.{ℕ, suc, ◌+◌, ◌*◌, ◌-◌, ◌/◌, ◌%◌, ◌≤◌, ◌<◌}
use native.Mathlib.Nat.{mul-le-mul_right, mod-lt, mod-eq_of_lt, add-mul-mod_self_right, div-add-mod'}
use native.Mathlib.Decide.{ℕ_discrete, dec_lt}
use native.Mathlib.Omega.{arith}
use lib.Dec.{eqb}
use borrow.Author.Tests.{eq-eqb, ne_eqb}
use Rattle.outcomes.specs.Sums.{sum, count}
use Rattle.outcomes.specs.Counting.{Among}
use Rattle.outcomes.proofs.Sums.{sum_same, sum_zero, sum_constant, sum_swap, sum_single}

-- two numbers less than a step apart that leave one remainder are the same
pub same_rest : (step r i j a b S : ℕ) → i < step → j < step → a * step + r ≡ S + i → b * step + r ≡ S + j → i ≡ j
same_rest step r i j a b S li lj e f = elim (ℕ_discrete a b) [
  | yes same ↦ omega (arith, ap (λ x. x * step) same)
  | no other ↦ elim (dec_lt a b) [
    | yes l ↦ absurd (omega (arith, mul-le-mul_right step l))
    | no l ↦ absurd (omega (arith, mul-le-mul_right step (more l other)))
  ]
]
  where
    more : ¬ (a < b) → ¬ (a ≡ b) → suc b ≤ a
    more l o = omega arith

-- the remainder of a number below the step, and whole steps
rest : (step r j : ℕ) → r < step → (r + j * step) % step ≡ r
rest step r j l = add-mul-mod_self_right r j step ∙ mod-eq_of_lt l

-- which start has a point at the number low + i: just its remainder
module _ (step low goal : ℕ) (fits : goal ≤ step) where
  at : ℕ → ℕ → ℕ
  at i r = cond (eqb ((low + i) % step) r) 1 0

  at_one : (i r : ℕ) → (low + i) % step ≡ r → at i r ≡ 1
  unfolding at
  at_one i r e = ap (λ b. cond b 1 0) (eq-eqb ((low + i) % step) r e)

  at_none : (i r : ℕ) → ¬ ((low + i) % step ≡ r) → at i r ≡ 0
  unfolding at
  at_none i r e = ap (λ b. cond b 1 0) (ne_eqb ((low + i) % step) r e)

  among_one : (r : ℕ) → r < step → Among step low goal r → sum goal (λ i. at i r) ≡ 1
  among_one r l h =
      let i : ℕ = r + h.0 * step - low in
      let here : low + i ≡ r + h.0 * step = omega arith in
      let leaves : (low + i) % step ≡ r = ap (λ x. x % step) here ∙ rest step r h.0 l in
      sum_single goal (λ i. at i r) i (omega arith) (λ j k other. at_none j r (λ e.
      other (same_rest step r j i ((low + j) / step) h.0 low (omega arith) (omega arith) (ap (λ x. (low + j) / step * step + x) (sym e) ∙ div-add-mod' (low + j) step) (omega arith))))
      ∙ at_one i r leaves

  among_none : (r : ℕ) → ¬ (Among step low goal r) → sum goal (λ i. at i r) ≡ 0
  among_none r h = sum_zero goal (λ i. at i r) (λ i l. at_none i r (λ e.
      let q : ℕ = (low + i) / step in
      let here : r + q * step ≡ low + i = omega (arith, div-add-mod' (low + i) step, e) in
      h (q, omega arith, omega arith)))

  -- of the `step` starts, just `goal` have a point among the `goal` numbers from `low`
  pub counting : (test : ℕ → Bool) → ((r : ℕ) → r < step → (test r ≡ true) ↔ Among step low goal r) → count step test ≡ goal
  counting test tells =
      sum_same step (λ r. cond (test r) 1 0) (λ r. sum goal (λ i. at i r)) (λ r l. each r l (test r) refl)
      ∙ sum_swap step goal (λ r i. at i r)
      ∙ sum_same goal (λ i. sum step (λ r. at i r)) (λ i. 1) (λ i l. one i l)
      ∙ sum_constant goal 1 ∙ omega arith
    where
      each : (r : ℕ) → r < step → (b : Bool) → test r ≡ b → cond (test r) 1 0 ≡ sum goal (λ i. at i r)
      each r l true e = ap (λ b. cond b 1 0) e ∙ sym (among_one r l ((tells r l).0 e))
      each r l false e = ap (λ b. cond b 1 0) e ∙ sym (among_none r (λ h. false≢true (sym e ∙ (tells r l).1 h)))

      one : (i : ℕ) → i < goal → sum step (λ r. at i r) ≡ 1
      one i l = sum_single step (λ r. at i r) ((low + i) % step) (mod-lt (low + i) (omega arith)) (λ r k other. at_none i r (λ e. other (sym e)))
          ∙ at_one i ((low + i) % step) refl
