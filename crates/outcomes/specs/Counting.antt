-- The points of a systematic sample.
use Rattle.std.specs.Prelude.{ℕ, ◌+◌, ◌*◌, ◌≤◌, ◌<◌}

-- one of the points r, r + step, r + 2 step and so on is among the `goal` numbers from `low`
abbrev pub Among : ℕ → ℕ → ℕ → ℕ → Type 0
Among step low goal r = (j : ℕ) × (low ≤ r + j * step) × (r + j * step < low + goal)
