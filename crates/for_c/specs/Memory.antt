-- What a call for another language leaves in its caller's memory: the rules of a memory that may be too small.
use Rattle.std.specs.Prelude.{◌≡◌, ℕ, ◌<◌, ◌≤◌, List, ◌++◌, length, drop}
use Rattle.response.specs.Responses.{Responds}

-- these bytes stand at the beginning of the memory, where they fit, and the rest stays; else all stays
pub record Puts (bytes old new : List ℕ) : Type 0 where
  pub fit : length bytes ≤ length old → new ≡ bytes ++ drop (length bytes) old
  pub else_kept : length old < length bytes → new ≡ old

-- a response of so many bytes is put there
pub record HasResponse (file : List ℕ) (count : ℕ) (old new : List ℕ) : Type 0 where
  pub response : List ℕ
  pub responds : Responds file response
  pub count_is : count ≡ length response
  pub puts : Puts response old new
