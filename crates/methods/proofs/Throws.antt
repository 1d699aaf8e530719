-- The throws of Poisson drawing: each decides its own unit.
use Rattle.std.proofs.Common.{◌≡◌, ℕ, zero, suc, ◌+◌, ◌<◌, ◌≤◌, Bool, true, false, cond, ltb, ◌↔◌, ◌≢◌, List, [], ◌∷◌, length, get_or, sym, refl, ap, ◌∙◌, arith}
use Rattle.std.proofs.lemmas.Bool.{ltb-true, lt-ltb}
use Rattle.outcomes.specs.Trees.{Sample, with}
use Rattle.outcomes.specs.Listing.{Leads}
use Rattle.methods.specs.Poisson.{poisson}
use Rattle.methods.specs.Laws.{PoissonTakes}
use Rattle.methods.proofs.Holdings.{no_way}
use Rattle.methods.proofs.Taking.{with_other, with_same}

-- the throws ds of the units from j on make the sample v of u
pub record Thrown (goals ds : List ℕ) (j : ℕ) (u v : Sample) : Type 0 where
  pub one_each : length ds ≡ length goals
  pub earlier : (k : ℕ) → k < j → v k ≡ u k
  pub own : (i : ℕ) → (v (j + i) ≡ true) ↔ ((i < length goals) × (get_or ds i 0 < get_or goals i 0))

-- one more throw: it decides unit j, and w is u but for that unit
one_throw : (goal d : ℕ) (rest ds : List ℕ) (j : ℕ) (u w v : Sample) → ((k : ℕ) → k ≢ j → w k ≡ u k) → w j ≡ ltb d goal
    → Thrown rest ds (suc j) w v → Thrown (goal ∷ rest) (d ∷ ds) j u v
one_throw goal d rest ds j u w v others here t = record {
  one_each = omega (arith, t.one_each);
  earlier = λ k l. let ne : k ≢ j = omega arith in t.earlier k (omega arith) ∙ others k ne;
  own = each;
}
  where
    v_here : v j ≡ ltb d goal
    v_here = t.earlier j (omega arith) ∙ here

    each : (i : ℕ) → (v (j + i) ≡ true) ↔ ((i < suc (length rest)) × (get_or (d ∷ ds) i 0 < get_or (goal ∷ rest) i 0))
    each zero =
        let at : v (j + 0) ≡ ltb d goal = ap v (omega arith) ∙ v_here in
        (λ e. (omega arith, ltb-true d goal (sym at ∙ e)), λ p. at ∙ lt-ltb d goal p.1)
    each (suc i) =
        let at : v (j + suc i) ≡ v (suc j + i) = ap v (omega arith) in
        (λ e. let p = (t.own i).0 (sym at ∙ e) in (omega (arith, p.0), p.1), λ p. at ∙ (t.own i).1 (omega (arith, p.0), p.1))

thrown : (all : ℕ) (goals : List ℕ) (j : ℕ) (u : Sample) (ds : List ℕ) (v : Sample) → ((k : ℕ) → j ≤ k → u k ≡ false)
    → Leads (poisson all goals j u) ds v → Thrown goals ds j u v
unfolding poisson
thrown all [] j u (d ∷ ds) v fresh h = absurd h
thrown all [] j u [] v fresh h = record {
  one_each = omega arith;
  earlier = λ k l. ap (λ w. w k) (sym h);
  own = λ i. (λ e. no_way (sym e ∙ ap (λ w. w (j + i)) (sym h) ∙ fresh (j + i) (omega arith)), λ p. absurd (omega (arith, p.0)));
}
thrown all (goal ∷ rest) j u [] v fresh h = absurd h
thrown all (goal ∷ rest) j u (d ∷ ds) v fresh h = pick (λ w f g. thrown all rest (suc j) w ds v f g) (ltb d goal) refl h.1
  where
    pick : ((w : Sample) → ((k : ℕ) → suc j ≤ k → w k ≡ false) → Leads (poisson all rest (suc j) w) ds v → Thrown rest ds (suc j) w v)
        → (b : Bool) → ltb d goal ≡ b → Leads (cond b (poisson all rest (suc j) (with u j)) (poisson all rest (suc j) u)) ds v → Thrown (goal ∷ rest) (d ∷ ds) j u v
    pick again true e g = one_throw goal d rest ds j u (with u j) v (λ k ne. with_other u j k ne) (with_same u j j refl ∙ sym e)
        (again (with u j) (λ k l. let ne : k ≢ j = omega arith in with_other u j k ne ∙ fresh k (omega arith)) g)
    pick again false e g = one_throw goal d rest ds j u u v (λ k ne. refl) (fresh j (omega arith) ∙ sym e)
        (again u (λ k l. fresh k (omega arith)) g)

pub poisson_takes : PoissonTakes
poisson_takes all goals ds u h =
    let t = thrown all goals 0 (λ _. false) ds u (λ k l. refl) h in
    let at : (k : ℕ) → u (0 + k) ≡ u k = λ k. ap u (omega arith) in
    (t.one_each, λ k. (λ e. (t.own k).0 (at k ∙ e), λ p. sym (at k) ∙ (t.own k).1 p))
