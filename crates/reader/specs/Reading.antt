-- What reading a frame file promises.
use Rattle.std.specs.Prelude.{◌≡◌, ◌↔◌, ℕ, List, Result, Ok, Some, IfErr, IfOk, MatchResult}
use Rattle.frame_file.specs.declared.frame.Frame.{Frame}
use Rattle.frame_file.specs.declared.fault.FieldFault.{FieldFault}
use Rattle.frame_file.specs.Faults.{numbered_field}
use Rattle.frame_file.specs.Refusals.{file_refusal}
use Rattle.frame_file.specs.Spots.{FirstWrong, NothingWrong}
use Rattle.frame_file.specs.Written.{written, Fits}

-- the bytes are what is written of the frame that is read, and it is in range; or they are refused, with the fault that is answered
abbrev pub ReadsOrRefuses : List ℕ → Result Frame FieldFault → Type 0
ReadsOrRefuses bytes result = MatchResult result (λ f. (bytes ≡ written f) × Fits f) (λ e. file_refusal bytes ≡ Some (numbered_field e))

-- a frame is read exactly if the bytes are what is written of it, and it is in range
abbrev pub ReadsExactly : List ℕ → Result Frame FieldFault → Type 0
ReadsExactly bytes result = (f : Frame) → (result ≡ Ok f) ↔ ((bytes ≡ written f) × Fits f)

-- a fault is that of the refusal
abbrev pub IsRefusal : List ℕ → Result Frame FieldFault → Type 0
IsRefusal bytes result = IfErr result (λ e. file_refusal bytes ≡ Some (numbered_field e))

-- and it is at the first spot of the file that is wrong, each judged alone
abbrev pub IsFirstWrong : List ℕ → Result Frame FieldFault → Type 0
IsFirstWrong bytes result = IfErr result (λ e. FirstWrong bytes (numbered_field e))

-- in a file that is read nothing is wrong
abbrev pub HasNothingWrong : List ℕ → Result Frame FieldFault → Type 0
HasNothingWrong bytes result = IfOk result (λ _. NothingWrong bytes)
