-- Poisson drawing: a throw for each unit.
use Rattle.std.specs.Prelude.{ℕ, suc, false, cond, List, [], ◌∷◌, nat_lt}
use Rattle.outcomes.specs.Trees.{Tree, finished, branching, Sample, with}
use Rattle.design.specs.Lists.{total}
use Rattle.design.specs.Plans.{Plans}
use Rattle.methods.specs.Plain.{goals, plain_plan}

-- The tree over the goals of the units still to be called, of which k is the first, and the units taken so far: each unit in list
-- order has a throw with as many ways as the total, and is taken if the throw is below its goal
unfoldable pub poisson : ℕ → List ℕ → ℕ → Sample → Tree Sample
poisson all [] k taken = finished taken
poisson all (goal ∷ rest) k taken =
    branching all (λ d. cond (nat_lt d goal) (poisson all rest (suc k) (with taken k)) (poisson all rest (suc k) taken))

-- what the plain design over this method does with a list and a sample size
abbrev pub poisson_plan : Plans
poisson_plan list n = plain_plan list n (poisson (total list) (goals list n) 0 (λ _. false))
