-- Ordered pivotal drawing (Deville and Tillé): units are called in list order, and duel with the one that is pending.
use Rattle.std.specs.Prelude.{ℕ, suc, ◌+◌, ◌-◌, ◌*◌, false, cond, List, [], ◌∷◌, ◌==◌, nat_lt}
use Rattle.outcomes.specs.Trees.{Tree, finished, branching, Sample, with}
use Rattle.design.specs.Lists.{total}
use Rattle.design.specs.Plans.{Plans}
use Rattle.methods.specs.Plain.{goals, plain_plan}

-- the pending unit, if any, and what it holds
pub data Pending : Type 0 where
  nobody : Pending
  pending : ℕ → ℕ → Pending

-- a holder of 0 is out, and then nobody is pending
abbrev pub holder : ℕ → ℕ → Pending
holder k a = cond (a == 0) nobody (pending k a)

-- The tree over the goals of the units still to be called, of which k is the first, with the pending unit and the units taken so far.
-- A unit whose goal is the total is taken without a duel. Another becomes pending where nobody is; else it duels with the pending one.
-- The pending unit i holds a, and the called unit k holds b. Together below the total, the throw has a + b ways: below a, i holds
-- a + b, and else k does; the other is out. Together at least the total, it has 2 all - (a + b) ways: below all - b, i is taken and k
-- holds a + b - all; else k is taken and i holds that
unfoldable pub pivotal : ℕ → List ℕ → ℕ → Pending → Sample → Tree Sample
pivotal all [] k pend taken = finished taken
pivotal all (b ∷ rest) k nobody taken =
    cond (b == all)
    (pivotal all rest (suc k) nobody (with taken k))
    (pivotal all rest (suc k) (pending k b) taken)
pivotal all (b ∷ rest) k (pending i a) taken =
    cond (b == all)
    (pivotal all rest (suc k) (pending i a) (with taken k))
    (cond (nat_lt (a + b) all)
    (branching (a + b) (λ d. cond (nat_lt d a)
    (pivotal all rest (suc k) (pending i (a + b)) taken)
    (pivotal all rest (suc k) (pending k (a + b)) taken)))
    (branching (2 * all - (a + b)) (λ d. cond (nat_lt d (all - b))
    (pivotal all rest (suc k) (holder k (a + b - all)) (with taken i))
    (pivotal all rest (suc k) (holder i (a + b - all)) (with taken k)))))

-- what the plain design over this method does with a list and a sample size
abbrev pub pivotal_plan : Plans
pivotal_plan list n = plain_plan list n (pivotal (total list) (goals list n) 0 nobody (λ _. false))
