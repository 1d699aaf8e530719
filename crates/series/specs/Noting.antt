-- A view of lists in which a series notes what the design below answers.
use Rattle.std.specs.Prelude.{◌≡◌, ℕ, ◌-◌, Bool, false, List, slice_index_or}
use Rattle.design.specs.Design.{Plan}
use Rattle.design.specs.Plans.{share_of}
use Rattle.design.specs.declared.design.Design as Design
use Rattle.design.specs.Fractions.{Fraction}
use Rattle.parts.specs.Copying.{Fresh, Over, outcome_of, overwritten}
use Rattle.parts.specs.Running.{no_share}

-- the places from a up to, and not including, b: which units the design's finished run has taken; the others stay
abbrev pub NotesTaken : {D : Type 0} → Design.Ghosts D → D → ℕ → ℕ → List Bool → List Bool → Type 0
NotesTaken G design a b old new =
    Over (G.tree design) (b - a) → (k : ℕ) → slice_index_or new k false ≡ overwritten (λ i. slice_index_or old i false) a b (outcome_of (G.tree design)) k

-- those places: the prescribed shares of the plan that the design has just begun; the others stay
abbrev pub NotesShares : {D : Type 0} → Design.Ghosts D → D → ℕ → ℕ → List Fraction → List Fraction → Type 0
NotesShares G design a b old new =
    (p : Plan) → Fresh p (G.tree design) (b - a) → (k : ℕ) → slice_index_or new k no_share ≡ overwritten (λ i. slice_index_or old i no_share) a b (share_of p) k
