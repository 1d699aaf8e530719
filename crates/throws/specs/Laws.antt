-- The laws of throws, as statements.
use Rattle.std.specs.Prelude.{◌≡◌, ℕ, ◌/◌, ◌%◌, ◌^◌, ◌<◌, ◌≤◌, true, List, [], ◌∷◌, ◌++◌, Ok, Err, nat_eq}
use Rattle.outcomes.specs.Sums.{count}
use Rattle.design.specs.Faults.{refusal}
use Rattle.throws.specs.Words.{limit, in_range, thrown, left}

-- every word is at least the limit
abbrev pub AllFrom : ℕ → List ℕ → Type 0
AllFrom limit [] = Unit {0}
AllFrom limit (w ∷ ws) = (limit ≤ w) × AllFrom limit ws

-- a throw is dry exactly where every waiting word is at least the limit, and then none waits
abbrev pub DryExactly : Type 0
DryExactly = (m : ℕ) (ws : List ℕ) → in_range m ≡ true
    → (thrown m ws ≡ Err (refusal 21) → AllFrom (limit m) ws)
    × (AllFrom (limit m) ws → (thrown m ws ≡ Err (refusal 21)) × (left m ws ≡ []))

-- of the words below the limit, each answer d below m is the remainder of equally many
abbrev pub EachAsOften : Type 0
EachAsOften = (m d : ℕ) → d < m → count (limit m) (λ w. nat_eq (w % m) d) ≡ 2 ^ 32 / m

-- a throw with m ways answered d while ws waited: the words before the one that serves were passed over, as each is at least the
-- limit; the one that serves is below it, and d is its remainder; what follows it is left
pub record Served (m : ℕ) (ws : List ℕ) (d : ℕ) : Type 0 where
  pub passed : List ℕ
  pub word : ℕ
  pub waited : ws ≡ passed ++ word ∷ left m ws
  pub too_high : AllFrom (limit m) passed
  pub serves : word < limit m
  pub answer : d ≡ word % m

-- every throw that answers was served so
abbrev pub PassedOver : Type 0
PassedOver = (m : ℕ) (ws : List ℕ) (d : ℕ) → thrown m ws ≡ Ok d → Served m ws d
