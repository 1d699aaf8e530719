-- The laws of the frame file, as statements.
use Rattle.std.specs.Prelude.{◌≡◌, ◌↔◌, ℕ, ◌^◌, ◌<◌, List, Some, None, decimal}
use Rattle.frame_file.specs.declared.frame.Frame.{Frame}
use Rattle.frame_file.specs.Fields.{number_in}
use Rattle.frame_file.specs.Faults.{FileRefusal}
use Rattle.frame_file.specs.Refusals.{file_refusal}
use Rattle.frame_file.specs.Written.{written, Fits}
use Rattle.frame_file.specs.Spots.{FirstWrong, NothingWrong}

-- a field is a number exactly if it is written as that number is
abbrev pub NumbersAsWritten : Type 0
NumbersAsWritten = (f : List ℕ) (n : ℕ) → n < 2 ^ 64 → (number_in f ≡ Some n) ↔ (f ≡ decimal n)

-- the refusal of a file, over its lines and fields, is the first spot that is wrong, each judged alone, and there is one first
abbrev pub RefusedAtFirst : Type 0
RefusedAtFirst = (bytes : List ℕ) (x : FileRefusal) → (file_refusal bytes ≡ Some x) ↔ FirstWrong bytes x

-- a file that is not refused is wrong nowhere
abbrev pub ElseNothingWrong : Type 0
ElseNothingWrong = (bytes : List ℕ) → (file_refusal bytes ≡ None) ↔ NothingWrong bytes

-- the written form of a frame in range is not refused, and it is that of no other frame in range
abbrev pub WrittenIsAccepted : Type 0
WrittenIsAccepted = (f : Frame) → Fits f → file_refusal (written f) ≡ None

abbrev pub WrittenOnce : Type 0
WrittenOnce = (f g : Frame) → Fits f → Fits g → written f ≡ written g → f ≡ g
