-- The laws of responses, as statements.
use Rattle.std.specs.Prelude.{◌≡◌, ℕ, List}
use Rattle.frame_file.specs.declared.frame.Frame.{Frame}
use Rattle.frame_file.specs.Written.{written, Fits}
use Rattle.response.specs.Responses.{Responds}

-- a file has no two responses: its bytes settle what is printed
abbrev pub OneResponse : Type 0
OneResponse = (bytes a b : List ℕ) → Responds bytes a → Responds bytes b → a ≡ b

-- every frame in range has a response, to the file that is written of it: start is refused, or the draws come to an end
abbrev pub SomeResponse : Type 0
SomeResponse = (f : Frame) → Fits f → (out : List ℕ) × Responds (written f) out
