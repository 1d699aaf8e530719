-- A survey whose run stands, and what is asked of it.
use Rattle.std.specs.Prelude.{◌≡◌, ℕ, true, List, map, length, Some}
use Rattle.std.specs.List.{range_with_len}
use Rattle.design.specs.Faults.{numbered}
use Rattle.design.specs.Plans.{Plans, share_of}
use Rattle.design.specs.declared.design.Design as Design
use Rattle.design.specs.declared.fault.Fault.{Fault}
use Rattle.design.specs.Fractions.{Fraction}
use Rattle.throws.specs.declared.source.Source as Source
use Rattle.plain_survey.specs.States.{PlainRun, State}
use Rattle.plain_survey.specs.Calls.{share_now}
use Rattle.plain_survey.specs.Reports.{is_finished}
use Rattle.survey.specs.Means.{Means}
use Rattle.survey.specs.declared.survey.Survey.{Survey}
use Rattle.response.specs.Drawing.{DrawnOut}

-- the run r stands
pub record StandsAt {D S : Type 0} (d : Design.Ghosts D) (w : Source.Ghosts S) (s : Survey D S d w) (r : PlainRun) : Type 0 where
  pub waiting : List ℕ
  pub means : Means d w s (record { words = waiting; run = Some r })

-- and has come to its outcome
pub record EndsAt {D S : Type 0} (d : Design.Ghosts D) (w : Source.Ghosts S) (s : Survey D S d w) (r : PlainRun) : Type 0 where
  pub stands : StandsAt d w s r
  pub ended : is_finished r.tree ≡ true

-- the shares of so many units, in order
abbrev pub in_order : ℕ → (ℕ → Fraction) → List Fraction
in_order units share = map share (range_with_len 0 units)

-- the share of each unit of the run, as it is now
abbrev pub shares_now : Plans → PlainRun → List Fraction
shares_now P r = in_order (length r.list) (share_now P r)

-- and the prescribed one
abbrev pub prescribed_shares : Plans → PlainRun → List Fraction
prescribed_shares P r = in_order (length r.list) (share_of (P r.list r.n))

-- draws were refused with x at last, and the survey means the state after them
pub record DrawnTo {D S : Type 0} (d : Design.Ghosts D) (w : Source.Ghosts S) (st : State) (x : Fault) (new : Survey D S d w) : Type 0 where
  pub end : State
  pub drawn : DrawnOut st (numbered x) end
  pub means : Means d w new end

-- so it is from each state that the survey means
abbrev pub DrawsOut : {D S : Type 0} (d : Design.Ghosts D) (w : Source.Ghosts S) → Survey D S d w → Fault → Survey D S d w → Type 0
DrawsOut d w old x new = (st : State) → Means d w old st → DrawnTo d w st x new
