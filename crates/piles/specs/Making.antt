-- A view of the answers of makers, which want memory, and may be refused a setting.
use Rattle.std.specs.Prelude.{Ok, Err, Option, Result}
use Rattle.design.specs.Faults.{Refusal, Answers}
use Rattle.piles.specs.declared.making.Unmade.{Unmade}
use Rattle.piles.specs.declared.making.Unmade.TheVariants.{Refused, OutOfMemory}

-- a setting is refused with just this refusal, if there is one, or else what is made has Q; where memory ran out, nothing is promised
abbrev pub Makes : {A : Type 0} → Option Refusal → (A → Type 0) → Result A Unmade → Type 0
Makes refusal Q (Ok made) = Answers refusal Q (Ok made)
Makes refusal Q (Err (Refused fault)) = Answers refusal Q (Err fault)
Makes refusal Q (Err OutOfMemory) = Unit {0}
