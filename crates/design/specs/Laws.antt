-- The laws of shares over any design, as statements.
use Rattle.std.specs.Prelude.{◌≡◌, ℕ, List, Ok}
use Rattle.design.specs.Design.{Run, in_run, Sound, SoundRun, Fair, Shared}
use Rattle.design.specs.Fractions.{Fraction}
use Rattle.design.specs.declared.row.Row.{Row}

-- directly after an accepted begin, share answers the prescribed numerator and denominator
abbrev pub PrescribedFirst : Type 0
PrescribedFirst = (list : List Row) (num : ℕ → ℕ) (run : Run) (k : ℕ) (share : Fraction) → Sound list num run
    → Shared (in_run run) k (Ok share) → (share.0 ≡ num k) × (share.1 ≡ run.denominator k)

-- a unit has one numerator: the rule of share settles its answer
abbrev pub OneNumerator : Type 0
OneNumerator = (run : Run) (k x y : ℕ) → SoundRun run → Fair run k x → Fair run k y → x ≡ y
