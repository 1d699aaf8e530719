-- A run of a plain design as it begins, and before a throw.
use Rattle.std.proofs.Common.{◌≡◌, ℕ, Bool, true, false, List, refl}
use Rattle.outcomes.specs.Trees.{Tree, Sample}
use Rattle.design.specs.Design.{ways_of}
use Rattle.methods.specs.Holdings.{standing}
use Rattle.methods.proofs.Plans.{Prepared}
use Rattle.plain.specs.Methods.{Accepted}
use Rattle.plain.specs.Of.{whole, held}
use Rattle.plain.specs.declared.holdings.Holdings.{Holdings}

pub prepared : (h : Holdings) (a : Accepted h) → Prepared a.list a.n (whole h) (held h)
prepared h a = record { accepts = a.accepts; all_is = a.begun.total_is; items_are = a.begun.goals_are }

-- where there is a way, there is a run
pub ways_run : (running : Bool) (all : ℕ) (holds : List ℕ) (t : Tree Sample) (m : ℕ) → m ≡ ways_of (standing running all holds t) → ¬ (m ≡ 0) → running ≡ true
ways_run true all holds t m e some = refl
ways_run false all holds t m e some = absurd (some e)
