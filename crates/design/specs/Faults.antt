-- Faults by their published numbers.
use Rattle.std.specs.Prelude.{◌≡◌, ℕ, ◌+◌, min, Bool, true, false, List, [], ◌∷◌, ◌++◌, Some, None, Ok, Err, codes, decimal, Option, Result}
use Rattle.design.specs.declared.fault.Fault.{Fault}
use Rattle.design.specs.declared.fault.Reason.{Reason}
use Rattle.design.specs.declared.fault.Reason.TheVariants.{EmptyList, TooManyRows, NoSample, SizeZero, SizesTooLarge, ShareAboveOne, TakesOutOfRange, TakeZero, WithinOutOfRange, NothingSet, OutOfOrder, StrataNotTakes, TakesNotSample, SampleNotMultiple, TooManyClusters, DenominatorTooLarge, NoWays, NoSuchThrow, NoSuchUnit, WaysOutOfRange, Dry, ScaleTooLarge, DesignWeightTooLarge, NoFinishedRun, ReadingsNotAsUnits, UnlawfulReading, AddedWeightTooLarge, TotalFull}

-- the published number of a reason
abbrev pub number_of : Reason → ℕ
number_of EmptyList = 1
number_of TooManyRows = 2
number_of NoSample = 3
number_of SizeZero = 4
number_of SizesTooLarge = 5
number_of ShareAboveOne = 6
number_of TakesOutOfRange = 7
number_of TakeZero = 8
number_of WithinOutOfRange = 9
number_of NothingSet = 10
number_of OutOfOrder = 11
number_of StrataNotTakes = 12
number_of TakesNotSample = 13
number_of SampleNotMultiple = 14
number_of TooManyClusters = 15
number_of DenominatorTooLarge = 16
number_of NoWays = 17
number_of NoSuchThrow = 18
number_of NoSuchUnit = 19
number_of WaysOutOfRange = 20
number_of Dry = 21
number_of ScaleTooLarge = 22
number_of DesignWeightTooLarge = 23
number_of NoFinishedRun = 24
number_of ReadingsNotAsUnits = 25
number_of UnlawfulReading = 26
number_of AddedWeightTooLarge = 27
number_of TotalFull = 28

-- a refusal as it is published: its number, the row concerned, and how many layers have passed it upward
pub record Refusal : Type 0 where
  pub number : ℕ
  pub row : ℕ
  pub depth : ℕ

-- a fault by its published number
abbrev pub numbered : Fault → Refusal
numbered f = record { number = number_of f.reason; row = f.row; depth = f.depth }

-- how a fault is written for people
abbrev pub fault_text : Fault → List ℕ
fault_text f = codes "fault " ++ (decimal (number_of f.reason) ++ (codes " at row " ++ (decimal f.row ++ (codes ", depth " ++ decimal f.depth))))

-- the refusal with this number at a row, by the call itself
abbrev pub refusal_at : ℕ → ℕ → Refusal
refusal_at number row = record { number = number; row = row; depth = 0 }

-- the same where no row is named
abbrev pub refusal : ℕ → Refusal
refusal number = refusal_at number 0

-- a refusal as the layer above passes it upward, at a row of its own list: 1 is added to the depth, up to 255
abbrev pub refusal_passed_up : ℕ → Refusal → Refusal
refusal_passed_up row f = record { number = f.number; row = row; depth = min 255 (f.depth + 1) }

-- an answer with its fault by number
abbrev pub told : {A : Type 0} → Result A Fault → Result A Refusal
told (Ok a) = Ok a
told (Err e) = Err (numbered e)

-- a call is refused with just this refusal, if there is one, or else answers a value with Q
abbrev pub Answers : {A : Type 0} → Option Refusal → (A → Type 0) → Result A Fault → Type 0
Answers None Q (Ok a) = Q a
Answers None Q (Err e) = ⊥
Answers (Some f) Q (Ok a) = ⊥
Answers (Some f) Q (Err e) = numbered e ≡ f

-- ---- checks in their order
abbrev pub or_else : {X : Type 0} → Option X → Option X → Option X
or_else None y = y
or_else (Some x) y = Some x

-- the refusal of the first check that refuses
abbrev pub first_of : List (Option Refusal) → Option Refusal
first_of [] = None
first_of (c ∷ cs) = or_else c (first_of cs)

-- a check of the whole: refused with this number where the test passes
abbrev pub refused_if : Bool → ℕ → Option Refusal
refused_if true number = Some (refusal number)
refused_if false number = None

-- a check of each row: refused with this number at the row, if there is one
abbrev pub refused_at : Option ℕ → ℕ → Option Refusal
refused_at None number = None
refused_at (Some k) number = Some (refusal_at number k)
