-- What the calls of the plain survey answer and leave, by the rules alone: start, stop, draw, taken and share.
use Rattle.std.specs.Prelude.{ℕ, zero, suc, ◌*◌, ◌/◌, Bool, true, cond, not, ◌&&◌, List, length, Some, None, Ok, Err, Option, Result, ◌==◌, nat_lt}
use Rattle.outcomes.specs.Trees.{Tree, finished, branching, Sample, weight, inclusion}
use Rattle.design.specs.Faults.{Refusal, refusal, refused_if}
use Rattle.design.specs.Design.{Plan, refuses, accepts}
use Rattle.design.specs.Plans.{Plans, tree_of, numerator_of, denominator_of}
use Rattle.design.specs.Fractions.{Fraction, fraction}
use Rattle.design.specs.declared.row.Row.{Row}
use Rattle.throws.specs.Words.{thrown, left}
use Rattle.weights.specs.Scale.{scale_of, design_weight, weights_refusal}
use Rattle.plain_survey.specs.States.{PlainRun, State, ways_now, run_after}

-- an answer: the refusal, if there is one, and else the value
abbrev pub answer : {A : Type 0} → Option Refusal → A → Result A Refusal
answer None a = Ok a
answer (Some f) a = Err f

-- ---- start
-- the scale of a list, and the design weight of each unit, by the prescribed shares
abbrev pub scale : Plan → List Row → ℕ
scale p list = scale_of (length list) (numerator_of p) (denominator_of p)

abbrev pub weight_in : Plan → List Row → ℕ → ℕ
weight_in p list k = design_weight (scale p list) (numerator_of p k) (denominator_of p k)

-- the design's refusal; then those of scale and weights
abbrev pub start_refusal : Plan → List Row → Option Refusal
start_refusal (refuses f) list = Some f
start_refusal (accepts num run) list = weights_refusal (length list) num run.denominator

abbrev pub start_answer : Plan → List Row → Result (Unit {0}) Refusal
start_answer p list = answer (start_refusal p list) tt

-- accepted, the present tree is begin's; refused, no run stands
abbrev pub first_run : Plan → List Row → ℕ → PlainRun
first_run p list n = record { list = list; n = n; tree = tree_of p }

abbrev pub begun : Option Refusal → PlainRun → Option PlainRun
begun None r = Some r
begun (Some f) r = None

-- the waiting words stay
abbrev pub start_after : Plan → List Row → ℕ → List ℕ → State
start_after p list n words = record { words = words; run = begun (start_refusal p list) (first_run p list n) }

-- ---- stop
-- the run ends, and the waiting words stay
abbrev pub stop_after : List ℕ → State
stop_after words = record { words = words; run = None }

-- ---- draw
-- one throw with the present ways
abbrev pub throw_now : State → Result ℕ Refusal
throw_now st = thrown (ways_now st.run) st.words

abbrev pub passed : Result ℕ Refusal → Result (Unit {0}) Refusal
passed (Ok d) = Ok tt
passed (Err f) = Err f

-- where there is no way, nothing is thrown
abbrev pub draw_answer : State → Result (Unit {0}) Refusal
draw_answer st = cond (ways_now st.run == 0) (Err (refusal 17)) (passed (throw_now st))

-- the words after the throw, and the run at its subtree; a throw with no way takes no word and leads nowhere
abbrev pub draw_after : State → State
draw_after st = record { words = left (ways_now st.run) st.words; run = run_after (throw_now st) st.run }

-- ---- taken and share
-- a question about the unit k of a run is refused where the list has no such unit
abbrev pub unit_refusal : PlainRun → ℕ → Option Refusal
unit_refusal r k = refused_if (not (nat_lt k (length r.list))) 19

-- all of f 0, .., f (n - 1)
abbrev pub all : ℕ → (ℕ → Bool) → Bool
all zero f = true
all (suc n) f = all n f && f n

-- whether the unit k is in every outcome
abbrev pub in_every : ℕ → Tree Sample → Bool
in_every k (finished u) = u k
in_every k (branching m sub) = all m (λ d. in_every k (sub d))

abbrev pub taken_answer : Option PlainRun → ℕ → Result Bool Refusal
taken_answer None k = Err (refusal 19)
taken_answer (Some r) k = answer (unit_refusal r k) (in_every k r.tree)

-- the share of the unit k in a tree: over the denominator den, the numerator that makes it the part of all outcomes, by weight, that hold k
abbrev pub share_in : ℕ → Tree Sample → ℕ → Fraction
share_in den t k = fraction (den * inclusion k t / weight t) den

-- the prescribed denominator of a unit of the run
abbrev pub denominator_in : Plans → PlainRun → ℕ → ℕ
denominator_in P r = denominator_of (P r.list r.n)

abbrev pub share_now : Plans → PlainRun → ℕ → Fraction
share_now P r k = share_in (denominator_in P r k) r.tree k

abbrev pub share_answer : Plans → Option PlainRun → ℕ → Result Fraction Refusal
share_answer P None k = Err (refusal 19)
share_answer P (Some r) k = answer (unit_refusal r k) (share_now P r k)
