-- A text cut at a byte.
use Rattle.std.specs.Prelude.{◌≡◌, ℕ, List, ◌∷◌, ◌++◌}
use Rattle.frame_file.specs.Pieces.{pieces}

-- the first piece of a text ends at a byte c, and the rest follows it
pub record Cut (c : ℕ) (text first rest : List ℕ) : Type 0 where
  pub pieces : pieces c text ≡ first ∷ pieces c rest
  pub bytes : text ≡ first ++ c ∷ rest
