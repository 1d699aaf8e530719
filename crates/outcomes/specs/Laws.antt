-- The laws of trees of outcomes, as statements.
use Rattle.std.specs.Prelude.{◌≡◌, ◌≢◌, Bool, true, false, List, Contains, AllPairs, ◌↔◌, ℕ, ◌*◌, ◌≤◌, ◌<◌, T, ℤ, pos, ◌*ℤ◌}
use Rattle.std.specs.List.{AllZip}
use Rattle.outcomes.specs.Sums.{sum, sumℤ, count}
use Rattle.outcomes.specs.Trees.{Tree, branching, Sample, weight, expect, expectℤ, inclusion, Average, Share, HasWays, Every, Always, bind}
use Rattle.outcomes.specs.Listing.{outcomes, weighed_sum, weighed_sumℤ, passed_sum, Leads, LeadsTo, roads, ways_along, weight_at}
use Rattle.outcomes.specs.Estimates.{sample_sumℤ}
use Rattle.outcomes.specs.Counting.{Among}

-- the total weight is above 0
abbrev pub Positive : Type 0
Positive = (t : Tree Sample) → HasWays t → 0 < weight t

-- the martingale law: if X has the average num d / den after each throw d, and num₀ is the average of the num d,
-- then X has the average num₀ / den
abbrev pub Martingale : Type 0
Martingale = (X : Sample → ℕ) (m : ℕ) (sub : ℕ → Tree Sample) (den num₀ : ℕ) (num : ℕ → ℕ)
    → ((d : ℕ) → d < m → Average X (num d) den (sub d)) → num₀ * m ≡ sum m num → Average X num₀ den (branching m sub)

-- a unit is in every outcome exactly if its inclusion weight is the total weight, and in none exactly if it is 0
abbrev pub Certain : Type 0
Certain = (k : ℕ) (t : Tree Sample) → HasWays t
    → (Always k t ↔ (inclusion k t ≡ weight t)) × (Every (λ u. u k ≡ false) t ↔ (inclusion k t ≡ 0))

-- the sequence law: if after each outcome u of the first tree X has the average Y u / den, then over the sequence X has the average of Y / den
abbrev pub Sequence : Type 0
Sequence = (X Y : Sample → ℕ) (den : ℕ) (t : Tree Sample) (h : Sample → Tree Sample)
    → Every (λ u. Average X (Y u) den (h u)) t → expect Y t * weight (bind t h) ≡ den * weight t * expect X (bind t h)

-- the averages law, where `summed` adds up a value over all outcomes, each times its weight: if each of the R units has the
-- inclusion share p / q and the design weight s * q / p, then the weighted totals of the outcomes, each times its outcome's weight,
-- add up to total weight times s times the total of all readings
abbrev pub AveragesBy : ((Sample → ℤ) → Tree Sample → ℤ) → Type 0
AveragesBy summed = (t : Tree Sample) (R s : ℕ) (p q w : ℕ → ℕ) (y : ℕ → ℤ)
    → ((k : ℕ) → k < R → Share k (p k) (q k) t) → ((k : ℕ) → k < R → 0 < p k) → ((k : ℕ) → k < R → w k * p k ≡ s * q k)
    → summed (sample_sumℤ R (λ k. pos (w k) *ℤ y k)) t ≡ pos (weight t * s) *ℤ sumℤ R y

-- the averages law over the tree
abbrev pub Averages : Type 0
Averages = AveragesBy expectℤ

-- the averages law over the list of outcomes
abbrev pub AveragesListed : Type 0
AveragesListed = AveragesBy (λ X t. weighed_sumℤ X (outcomes t))

-- the counting law: of the `step` starts, just `goal` have a point among the `goal` numbers from `low`
abbrev pub Counting : Type 0
Counting = (step low goal : ℕ) → goal ≤ step → (test : ℕ → Bool)
    → ((r : ℕ) → r < step → (test r ≡ true) ↔ Among step low goal r) → count step test ≡ goal

-- the sums over a tree are those over the list of its outcomes, each with its weight
pub record Listed : Type 0 where
  pub weighted : (X : Sample → ℕ) (t : Tree Sample) → expect X t ≡ weighed_sum X (outcomes t)
  pub signed : (X : Sample → ℤ) (t : Tree Sample) → expectℤ X t ≡ weighed_sumℤ X (outcomes t)
  pub total : (t : Tree Sample) → weight t ≡ passed_sum (λ u. true) (outcomes t)
  pub holding : (k : ℕ) (t : Tree Sample) → inclusion k t ≡ passed_sum (λ u. u k) (outcomes t)

-- every outcome passes a test exactly if each one does to which throws lead
abbrev pub Reached : Type 0
Reached = (p : Sample → Bool) (t : Tree Sample) → Every (λ u. T (p u)) t ↔ ((ds : List ℕ) (u : Sample) → Leads t ds u → T (p u))

-- an outcome's weight is the total weight over the number of equally likely lists of throws of which one leads to it
abbrev pub EquallyLikely : Type 0
EquallyLikely = (t : Tree Sample) (ds : List ℕ) (u : Sample) → Leads t ds u → ways_along t ds * weight_at t ds ≡ weight t

-- the list of outcomes goes road by road: place by place, the road there leads to the outcome there, whose weight is that at the
-- road's end; each road that leads to an outcome is among them, and none stands there twice
pub record RoadByRoad : Type 0 where
  pub in_step : (t : Tree Sample) → AllZip (LeadsTo t) (roads t) (outcomes t)
  pub each : (t : Tree Sample) (ds : List ℕ) (u : Sample) → Leads t ds u → Contains (roads t) ds
  pub none_twice : (t : Tree Sample) → AllPairs (λ ds es. ds ≢ es) (roads t)
