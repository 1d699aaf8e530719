-- Totals over a sample, as laws of averages speak of them.
use Rattle.std.specs.Prelude.{cond, ℕ, ℤ, pos}
use Rattle.outcomes.specs.Sums.{sumℤ}
use Rattle.outcomes.specs.Trees.{Sample}

-- the sum of c k over the units k below R that the sample holds
abbrev pub sample_sumℤ : ℕ → (ℕ → ℤ) → Sample → ℤ
sample_sumℤ R c u = sumℤ R (λ k. cond (u k) (c k) (pos 0))
