-- The state of a plain design's run, as its parts stand for it: what each unit holds of the whole.
use Rattle.std.specs.Prelude.{◌≡◌, ℕ, ◌<◌, ◌≤◌, Bool, true, false, cond, ◌⊎◌, List, length, Ok, Err, Result, ◌==◌, nat_lt, slice_index}
use Rattle.outcomes.specs.Trees.{Tree, Sample}
use Rattle.design.specs.Faults.{numbered, refusal}
use Rattle.design.specs.Design.{Standing, no_run, in_run}
use Rattle.design.specs.declared.fault.Fault.{Fault}
use Rattle.design.specs.Fractions.{Fraction}
use Rattle.methods.specs.Plain.{plain_run}

-- the run that stands, where one does: units that hold so much of `all`, and the present tree
abbrev pub standing : Bool → ℕ → List ℕ → Tree Sample → Standing
standing true all holds t = in_run (plain_run all (length holds) t)
standing false all holds t = no_run

-- a called unit that holds all is taken
abbrev pub taken_of : ℕ → List ℕ → ℕ → Sample
taken_of all holds called k = cond (nat_lt k called) (slice_index holds k == all) false

-- no unit holds more than all
abbrev pub Within : ℕ → List ℕ → Type 0
Within all holds = (k : ℕ) → k < length holds → slice_index holds k ≤ all

-- each of the first `called` units holds all or nothing
abbrev pub AllOrNothing : ℕ → List ℕ → ℕ → Type 0
AllOrNothing all holds called = (k : ℕ) → k < called → slice_index holds k < all → slice_index holds k ≡ 0

-- the answer of share: what the unit holds, over all
abbrev pub HeldShare : Bool → ℕ → List ℕ → ℕ → Result Fraction Fault → Type 0
HeldShare running all holds k (Ok share) =
    (running ≡ true) × (k < length holds) × (share.0 ≡ slice_index holds k) × (share.1 ≡ all)
HeldShare running all holds k (Err e) = ((running ≡ false) ⊎ (length holds ≤ k)) × (numbered e ≡ refusal 19)
