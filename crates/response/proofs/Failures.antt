-- Values, or want of memory.
use Rattle.std.proofs.Common.{◌≡◌, refl, ℕ, List, Ok, Err, Result, String, string_bytes, sym, subst}
use Rattle.std.specs.Global.{Global}
use Rattle.response.specs.declared.failure.Failure.{Failure}
use Rattle.response.specs.declared.failure.Failure.TheVariants.{Refused, OutOfMemory}
use Rattle.response.specs.Failures.{Gets, Prints}

pub gets_more : {A : Type 0} (Q R : A → Type 0) (result : Result A Failure) → ((a : A) → Q a → R a) → Gets Q result → Gets R result
gets_more Q R (Ok a) h got = h a got
gets_more Q R (Err (Refused e)) h got = absurd got
gets_more Q R (Err OutOfMemory) h got = tt

pub prints_got : (Q : List ℕ → Type 0) (text : List ℕ) (result : Result (String Global) Failure) → Gets (λ t. string_bytes t ≡ text) result → Q text → Prints Q result
prints_got Q text (Ok t) got q = subst Q (sym got) q
prints_got Q text (Err (Refused e)) got q = absurd got
prints_got Q text (Err OutOfMemory) got q = tt

pub only_memory : {A : Type 0} (Q : A → Type 0) (e : Failure) → Gets Q (Err e) → e ≡ OutOfMemory
only_memory Q (Refused e) got = absurd got
only_memory Q OutOfMemory got = refl
