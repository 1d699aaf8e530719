-- Requests for reports into one of several totals, each of any kind.
use Rattle.std.specs.Prelude.{◌≡◌, ℕ, zero, suc, ◌<◌, Bool, true, ℤ, List, [], ◌∷◌, map, length, All, Option, Result, ◌+◌}
use Rattle.design.specs.Faults.{Refusal}
use Rattle.design.specs.Plans.{Plans}
use Rattle.plain_survey.specs.States.{PlainRun}
use Rattle.plain_survey.specs.Reports.{Kind, Tally, report_answer, report_tally}
use Rattle.plain_survey.specs.declared.either.Either.{Either}
use Rattle.plain_survey.specs.declared.either.Either.TheVariants.{First, Second}

-- a reading, as its kind of total takes it: whether it is lawful, and its row
pub record Reading : Type 0 where
  pub is_lawful : Bool
  pub row : List ℤ

-- a report that is asked for: into which of the totals, how many numbers a row of that total's kind has, and the readings
pub record Request : Type 0 where
  pub into : ℕ
  pub width : ℕ
  pub readings : List Reading

-- readings of a kind
abbrev pub taken_by : {R : Type 0} → Kind R → List R → List Reading
taken_by kind readings = map (λ x. record { is_lawful = kind.is_lawful x; row = kind.row x }) readings

-- a report of readings of a kind into the total `into`
abbrev pub request : {R : Type 0} → ℕ → Kind R → List R → Request
request into kind readings = record { into = into; width = kind.width; readings = taken_by kind readings }

-- a request where so many totals stand before those that it was made for
abbrev pub past : ℕ → Request → Request
past n q = record { into = n + q.into; width = q.width; readings = q.readings }

-- the kind of which its readings are
abbrev pub kind_in : Request → Kind Reading
kind_in q = record { is_lawful = λ x. x.is_lawful; row = λ x. x.row; width = q.width }

-- what a report answers
abbrev pub request_answer : Request → Plans → Option PlainRun → Result (ℕ × ℕ) Refusal
request_answer q P run = report_answer (kind_in q) P run q.readings

-- the total n changed, and no other
abbrev pub change_at : ℕ → (Tally → Tally) → List Tally → List Tally
change_at n f [] = []
change_at zero f (t ∷ ts) = f t ∷ ts
change_at (suc n) f (t ∷ ts) = t ∷ change_at n f ts

-- what it leaves in the totals: only the one that it is asked into can change
abbrev pub request_tallies : Request → Plans → Option PlainRun → List Tally → List Tally
request_tallies q P run ts = change_at q.into (report_tally (kind_in q) P run q.readings) ts

-- the row of each lawful reading is of the total's width
abbrev pub RowsFit : Request → Type 0
RowsFit q = All (λ x. x.is_lawful ≡ true → length x.row ≡ q.width) q.readings

-- its total is there, and its rows fit
pub record IsFor (totals : ℕ) (q : Request) : Type 0 where
  pub there : q.into < totals
  pub rows : RowsFit q

-- what asks on either side, where m totals stand on the first
abbrev pub either_requests : {P Q : Type 0} → (P → Request) → ℕ → (Q → Request) → Either P Q → Request
either_requests f m g (First p) = f p
either_requests f m g (Second q) = past m (g q)
