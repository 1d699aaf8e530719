-- A view of the answers of functions that may want memory, or be refused.
use Rattle.std.specs.Prelude.{◌≡◌, ℕ, List, Ok, Err, Result, String, string_bytes}
use Rattle.std.specs.Global.{Global}
use Rattle.frame_file.specs.Faults.{numbered_file}
use Rattle.sample_file.specs.Text.{fault_line}
use Rattle.response.specs.declared.failure.Failure.{Failure}
use Rattle.response.specs.declared.failure.Failure.TheVariants.{Refused, OutOfMemory}

-- a value with Q, or want of memory, but no refusal
abbrev pub Gets : {A : Type 0} → (A → Type 0) → Result A Failure → Type 0
Gets Q (Ok a) = Q a
Gets Q (Err (Refused fault)) = ⊥
Gets Q (Err OutOfMemory) = Unit {0}

-- what is to be printed meets Q: it is the text, or else the line of the refusal
abbrev pub Prints : (List ℕ → Type 0) → Result (String Global) Failure → Type 0
Prints Q (Ok text) = Q (string_bytes text)
Prints Q (Err (Refused fault)) = Q (fault_line (numbered_file fault))
Prints Q (Err OutOfMemory) = Unit {0}

-- these bytes are what is to be printed; with want of memory, nothing is
abbrev pub IsPrinted : Result (String Global) Failure → List ℕ → Type 0
IsPrinted (Ok text) bytes = bytes ≡ string_bytes text
IsPrinted (Err (Refused fault)) bytes = bytes ≡ fault_line (numbered_file fault)
IsPrinted (Err OutOfMemory) bytes = ⊥
