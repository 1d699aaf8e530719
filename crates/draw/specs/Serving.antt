-- What a run of the program writes.
use Rattle.std.specs.Prelude.{ℕ, List, Some, None, Option}
use Rattle.std.specs.Io.KnownBytes.{Appends}
use Rattle.response.specs.Responses.{Responds}

-- where the bytes of the input are known, the response to them is appended to those of the output
abbrev pub Serves : Option (List ℕ) → Option (List ℕ) → Option (List ℕ) → Type 0
Serves None old new = Unit {0}
Serves (Some bytes) old new = (out : List ℕ) × Responds bytes out × Appends old new out
