-- A view of a design that is tried on every part of a list, to find refusals and note the prescribed shares.
use Rattle.std.specs.Prelude.{◌≡◌, ℕ, ◌+◌, List, Ok, Err, Result, slice_index_or}
use Rattle.design.specs.Faults.{numbered, refusal_passed_up}
use Rattle.design.specs.Design.{Plan, refuses, accepts, Standing, in_run}
use Rattle.design.specs.declared.fault.Fault.{Fault}
use Rattle.design.specs.Fractions.{Fraction}
use Rattle.design.specs.Plans.{share_of}
use Rattle.parts.specs.Running.{Tables, first_row_of, no_share}
use Rattle.parts.specs.Copying.{overwritten}

-- the same tables with other shares
abbrev pub with_shares : Tables → List Fraction → Tables
with_shares v shares = record {
  rows = v.rows;
  bounds = v.bounds;
  samples = v.samples;
  shares = shares;
  chosen = v.chosen;
  taken = v.taken;
  stage = v.stage;
  moved = v.moved;
}

-- the shares w of part j are written into xs
abbrev pub WrittenIn : Tables → ℕ → List Fraction → (ℕ → Fraction) → List Fraction → Type 0
WrittenIn v j xs w ys = (k : ℕ) → slice_index_or ys k no_share ≡ overwritten (λ i. slice_index_or xs i no_share) (first_row_of v j) (first_row_of v (j + 1)) w k

-- the design, which has the plan a for part j, was tried on it, and has the standing st: the prescribed shares are written in, and the run of
-- the plan stands, or the refusal is passed up
abbrev pub Tried : {U : Type 0} → Plan → Tables → ℕ → List Fraction → Standing → Result U Fault → Type 0
Tried (refuses f) v j shares st (Ok u) = ⊥
Tried (refuses f) v j shares st (Err e) = numbered e ≡ refusal_passed_up (first_row_of v j + f.row) f
Tried (accepts num run) v j shares st (Ok u) = WrittenIn v j v.shares (share_of (accepts num run)) shares × (st ≡ in_run run)
Tried (accepts num run) v j shares st (Err e) = ⊥
