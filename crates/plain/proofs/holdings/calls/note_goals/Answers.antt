use Rattle.std.proofs.Common.{rules, arith, ◌≡◌, ℕ, ◌*◌, ◌<◌, ◌≤◌, None, Ok, Option, List, length, get_or, ◌∙◌, sym, subst}
use Rattle.std.proofs.iter.Serving.{serving}
use Rattle.std.proofs.lemmas.Bool.{ltb-false}
use Rattle.std.proofs.lemmas.List.{ext_get_or, get_or-map}
use Rattle.design.specs.Faults.{Answers, Refusal}
use Rattle.design.specs.Lists.{total, size_at}
use Rattle.design.specs.declared.row.Row.{Row}
use Rattle.design.proofs.Firsts.{accepted, first_none, no_row}
use Rattle.methods.specs.Plain.{above_total, goal_refusal, goals}
use Rattle.methods.proofs.Goals.{goals_long}
use Rattle.plain.proofs.holdings.calls.note_goals.Goals as goal

-- where no goal is above the total, each is at most the total
reached : (list : List Row) (n : ℕ) → goal_refusal list n ≡ None → (k : ℕ) → k < length list → n * size_at list k ≤ total list
reached list n e k l = ltb-false (total list) (n * size_at list k) (first_none (length list) (above_total list n) (no_row _ 6 e) k l)

-- a list with the goal of each row in its place
goals_by : (list : List Row) (n : ℕ) (ys : List ℕ) → length ys ≡ length list → ((k : ℕ) → k < length list → get_or ys k 0 ≡ n * size_at list k) → ys ≡ goals list n
goals_by list n ys long at =
    ext_get_or 0 ys (goals list n) (long ∙ sym (goals_long list n))
    (λ k l. at k (omega arith) ∙ sym (get_or-map (λ (r : Row). n * r.size) list k (record { stratum = 0; cluster = 0; size = 0 }) 0 (omega arith)))

-- an answer where nothing is refused
nothing_refused : {U : Type 0} (o : Option Refusal) (Q : U → Type 0) (u : U) → o ≡ None → Q u → Answers {A = U} o Q (Ok u)
nothing_refused {U} o Q u e q = subst (λ x. Answers {A = U} x Q (Ok u)) (sym e) q

pub write-requires : goal.write-requires
write-requires c =
    let none : goal_refusal c.args.list.now c.args.n ≡ None = (accepted _ _ _ c.in_ok-check_goals.ensures).0 in
    grind (serving, arith, reached c.args.list.now c.args.n none)

pub returns-clause-answers : goal.returns-clause-answers
returns-clause-answers c =
    let long : length c.write.new.self ≡ length c.args.list.now = omega arith in
    let held : length c.args.list.now ≤ length c.set_length.new.goals = omega arith in
    nothing_refused (goal_refusal c.args.list.now c.args.n) (λ (u : Unit {0}). c.write.new.self ≡ goals c.args.list.now c.args.n) tt
    (accepted _ _ _ c.in_ok-check_goals.ensures).0
    (goals_by c.args.list.now c.args.n c.write.new.self long (λ k l. let h = c.write.ensures.written held k 0 (omega arith) in search rules))
