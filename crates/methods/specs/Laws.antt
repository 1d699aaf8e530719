-- The laws of the plain methods, as statements.
use Rattle.std.specs.Prelude.{◌≡◌, ℕ, ◌<◌, true, false, ◌↔◌, List, length, None, slice_index}
use Rattle.outcomes.specs.Trees.{Sample}
use Rattle.outcomes.specs.Listing.{Leads}
use Rattle.outcomes.specs.Counting.{Among}
use Rattle.methods.specs.Plain.{goals, plain_refusal}
use Rattle.methods.specs.Pivotal.{pivotal_plan}
use Rattle.methods.specs.Duelling.{PlaysOut}
use Rattle.methods.specs.Poisson.{poisson, poisson_plan}
use Rattle.methods.specs.Systematic.{numbers_from, struck, systematic_plan}
use Rattle.design.specs.Lists.{total}
use Rattle.design.specs.Plans.{SoundPlans, tree_of}
use Rattle.design.specs.declared.row.Row.{Row}

-- systematic drawing takes a unit at the throw r exactly if one of r, r + all, r + 2 all and so on is among its numbers
abbrev pub SystematicTakes : Type 0
SystematicTakes = (all : ℕ) (goals : List ℕ) (r k : ℕ) → 0 < all → (struck all goals r k ≡ true) ↔ Among all (numbers_from goals k) (slice_index goals k) r

-- ordered pivotal drawing plays the goals of a list that is not refused out: the first two undecided units duel until none is undecided
abbrev pub PivotalPlaysOut : Type 0
PivotalPlaysOut = (list : List Row) (n : ℕ) → plain_refusal list n ≡ None → PlaysOut (total list) (length list) (slice_index (goals list n)) (tree_of (pivotal_plan list n))

-- Poisson drawing has a throw for each unit, in list order, and takes a unit exactly if its own throw is below its goal
abbrev pub PoissonTakes : Type 0
PoissonTakes = (all : ℕ) (goals ds : List ℕ) (u : Sample) → Leads (poisson all goals 0 (λ _. false)) ds u
    → (length ds ≡ length goals) × ((k : ℕ) → (u k ≡ true) ↔ ((k < length goals) × (slice_index ds k < slice_index goals k)))

-- every plan of systematic drawing is sound: shares are exact, and everything is within the limits
abbrev pub SystematicSound : Type 0
SystematicSound = SoundPlans systematic_plan

-- every plan of ordered pivotal drawing is sound
abbrev pub PivotalSound : Type 0
PivotalSound = SoundPlans pivotal_plan

-- every plan of Poisson drawing is sound
abbrev pub PoissonSound : Type 0
PoissonSound = SoundPlans poisson_plan
