-- Which part holds a unit, and what the sample of a part leaves of the units before.
use Rattle.std.proofs.Common.{◌≡◌, ℕ, ◌+◌, ◌-◌, ◌<◌, ◌≤◌, true, false, cond, ◌&&◌, ltb, leb, length, ap, ap₂, arith, ltb-true, le-ltb, lt-ltb, le-leb, leb-true}
use borrow.Author.Tests.{lt-leb}
use Rattle.std.proofs.lemmas.Bool.{and_parts}
use Rattle.outcomes.specs.Trees.{Sample}
use Rattle.parts.specs.Parts.{Part, holds}
use Rattle.parts.specs.Series.{joined}

pub holds_in : (p : Part) (k : ℕ) → p.at ≤ k → k < p.at + length p.rows → holds p k ≡ true
holds_in p k a b = ap₂ ◌&&◌ (le-leb p.at k a) (lt-ltb k (p.at + length p.rows) b)

pub holds_before : (p : Part) (k : ℕ) → k < p.at → holds p k ≡ false
holds_before p k a = ap (λ b. b && ltb k (p.at + length p.rows)) (lt-leb p.at k a)

pub holds_past : (p : Part) (k : ℕ) → p.at + length p.rows ≤ k → holds p k ≡ false
holds_past p k a = ap₂ ◌&&◌ (le-leb p.at k (omega arith)) (le-ltb k (p.at + length p.rows) a)

pub holds_is : (p : Part) (k : ℕ) → holds p k ≡ true → (p.at ≤ k) × (k < p.at + length p.rows)
holds_is p k e =
    let h = and_parts (leb p.at k) (ltb k (p.at + length p.rows)) e in
    (leb-true p.at k h.0, ltb-true k (p.at + length p.rows) h.1)

pub joined_in : (p : Part) (u v : Sample) (k : ℕ) → p.at ≤ k → k < p.at + length p.rows → joined p u v k ≡ v (k - p.at)
joined_in p u v k a b = ap (λ h. cond h (v (k - p.at)) (u k)) (holds_in p k a b)

pub joined_out : (p : Part) (u v : Sample) (k : ℕ) → holds p k ≡ false → joined p u v k ≡ u k
joined_out p u v k e = ap (λ h. cond h (v (k - p.at)) (u k)) e
