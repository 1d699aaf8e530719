-- What the calls of any plain design have in common.
use Rattle.std.proofs.Common.{◌≡◌, ℕ, ◌<◌, ◌≤◌, Bool, true, false, List, length, get_or, refl, arith}
use mathlib.Core.Path.{fun_ext}
use mathlib.Core.Logic.{∥∥₁_elim}
use Rattle.outcomes.specs.Trees.{Tree, Sample, Share, Lawful}
use Rattle.design.specs.Design.{SoundStanding}
use Rattle.methods.specs.Holdings.{standing}

pub no_way : {X : Type 0} → ◌≡◌ {A = Bool} true false → X
no_way e = absurd (let z : ◌≡◌ {A = ℕ} 0 1 = cc in omega arith)

-- a fact that is kept while a run stands, where it has one proof
pub holding_now : {K : Type 0} (running : Bool) → IsProp K → ∥ (running ≡ true → K) ∥₁ → running ≡ true → K
holding_now running once h = ∥∥₁_elim h (λ f g. fun_ext (λ e. once (f e) (g e))) (λ x. x)

-- the run that stands is sound, where each unit's share is what it holds
pub sound_held : (running : Bool) (all : ℕ) (holds : List ℕ) (t : Tree Sample)
    → (running ≡ true → (0 < all) × (all ≤ 10240000))
    → (running ≡ true → Lawful (length holds) t)
    → (running ≡ true → (k : ℕ) → k < length holds → Share k (get_or holds k 0) all t)
    → SoundStanding (standing running all holds t)
sound_held true all holds t some lawful fair =
    record { lawful = lawful refl; denominators = λ k l. ((some refl).0, omega (arith, (some refl).1)); exact = λ k l. (get_or holds k 0, fair refl k l) }
sound_held false all holds t some lawful fair = tt
