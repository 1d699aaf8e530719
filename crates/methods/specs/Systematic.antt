-- Systematic drawing (Madow): one throw for all units.
use Rattle.std.specs.Prelude.{ℕ, zero, suc, ◌+◌, ◌*◌, Bool, false, ◌&&◌, ◌||◌, List, nat_le, nat_lt, slice_index}
use Rattle.outcomes.specs.Sums.{sum}
use Rattle.outcomes.specs.Trees.{Tree, finished, branching, Sample}
use Rattle.design.specs.Lists.{total}
use Rattle.design.specs.Plans.{Plans}
use Rattle.methods.specs.Plain.{goals, plain_plan}

-- some number below `count` passes the test
abbrev pub some : ℕ → (ℕ → Bool) → Bool
some zero test = false
some (suc n) test = some n test || test n

-- the numbers of unit k begin at the sum of the earlier goals, and are as many as its goal
abbrev pub numbers_from : List ℕ → ℕ → ℕ
numbers_from goals k = sum k (λ i. slice_index goals i)

-- one of the points r, r + all, r + 2 all and so on is among the `goal` numbers from `low`
abbrev pub among : ℕ → ℕ → ℕ → ℕ → Bool
among all low goal r = some (low + goal) (λ j. nat_le low (r + j * all) && nat_lt (r + j * all) (low + goal))

-- unit k is taken at the throw r: one of the points is among its numbers
abbrev pub struck : ℕ → List ℕ → ℕ → ℕ → Bool
struck all goals r k = among all (numbers_from goals k) (slice_index goals k) r

-- one throw with as many ways as the total
unfoldable pub systematic : ℕ → List ℕ → Tree Sample
systematic all goals = branching all (λ r. finished (λ k. struck all goals r k))

-- what the plain design over this method does with a list and a sample size
abbrev pub systematic_plan : Plans
systematic_plan list n = plain_plan list n (systematic (total list) (goals list n))
