-- Calls made one after another.
use Rattle.std.proofs.Math.ListN.{set}
use Rattle.std.proofs.Common.{◌≡◌, refl, min, ℕ, zero, suc, ◌+◌, ◌<◌, List, [], ◌∷◌, ◌++◌, length, sym, ap, subst, ◌∙◌, add-one, slice_index_or, arith}
use Rattle.std.proofs.Math.ListN.{take}
use Rattle.std.proofs.Math.Nat.{min-le_left, min-le_right, min_comm}
use Rattle.std.proofs.Math.Seq.{take-length}
use Rattle.std.proofs.lemmas.List.{length-take-le, take_min}
use Rattle.design.specs.declared.design.Design as Design
use Rattle.throws.specs.declared.source.Source as Source
use Rattle.plain_survey.specs.Asking.{Rules, WithTotals, reply, after}
use Rattle.plain_survey.specs.declared.call.Call.{Call}
use Rattle.plain_survey.specs.declared.call.Answer.{Answer}
use Rattle.survey.specs.Means.{Means}
use Rattle.survey.specs.declared.ledger.Ledger as Ledger
use Rattle.survey.specs.Conducting.{rules_of, with_totals, DoesAs, Obeys, EachObeys, replies_of, AllAs, placed, answered}
use Rattle.survey.specs.declared.survey.Survey.{Survey}

-- the first i + 1 items are the first i, and the item i
take_suc : {A : Type 0} (xs : List A) (i : ℕ) (x : A) → i < length xs → x ≡ slice_index_or xs i x → take (suc i) xs ≡ take i xs ++ x ∷ []
take_suc [] i x l e = absurd (omega (arith, l))
take_suc (y ∷ xs) zero x l e = ap (λ z. z ∷ []) (sym e)
take_suc (y ∷ xs) (suc i) x l e = ap (λ zs. y ∷ zs) (take_suc xs i x (omega (arith, l)) e)

pub take_more : {A : Type 0} (xs : List A) (i : ℕ) (x : A) → i < length xs → x ≡ slice_index_or xs i x → take (i + 1) xs ≡ take i xs ++ x ∷ []
take_more xs i x l e = ap (λ n. take n xs) (add-one i) ∙ take_suc xs i x l e

-- one call more
pub one_more : {D S L Q : Type 0} (d : Design.Ghosts D) (w : Source.Ghosts S) (g : Ledger.Ghosts L Q) (calls : List (Call Q)) (answers : List Answer) (call : Call Q) (answer : Answer)
    (first : Survey D S d w) (ledger_first : L) (s : Survey D S d w) (ledger : L) (next : Survey D S d w) (ledger_next : L)
    → EachObeys d w g calls answers first ledger_first s ledger → Obeys d w g call answer s ledger next ledger_next
    → EachObeys d w g (calls ++ call ∷ []) (answers ++ answer ∷ []) first ledger_first next ledger_next
one_more d w g [] [] call answer first ledger_first s ledger next ledger_next h o =
    (next, ledger_next, subst (λ x. Obeys d w g call answer x ledger_first next ledger_next) h.0 (subst (λ x. Obeys d w g call answer s x next ledger_next) h.1 o), (refl, refl))
one_more d w g [] (a ∷ more) call answer first ledger_first s ledger next ledger_next h o = absurd h
one_more d w g (c ∷ cs) [] call answer first ledger_first s ledger next ledger_next h o = absurd h
one_more d w g (c ∷ cs) (a ∷ more) call answer first ledger_first s ledger next ledger_next h o =
    (h.0, h.1, h.2, one_more d w g cs more call answer h.0 h.1 s ledger next ledger_next h.3 o)

-- what holds of each call holds of the whole list
pub all_as : {D S L Q : Type 0} (d : Design.Ghosts D) (w : Source.Ghosts S) (g : Ledger.Ghosts L Q) (calls : List (Call Q)) (answers : List Answer) (first : Survey D S d w) (ledger_first : L) (s : Survey D S d w) (ledger : L)
    (rules : Rules Q) (v : WithTotals) → EachObeys d w g calls answers first ledger_first s ledger → rules_of d g first ≡ rules → v.totals ≡ g.tallies ledger_first → Means d w first v.state
    → AllAs d w g rules v calls answers s ledger
all_as d w g [] [] first ledger_first s ledger rules v h e f m =
    record { answers_are = refl; means = subst (λ x. Means d w x v.state) (sym h.0) m; leaves = ap g.tallies h.1 ∙ sym f }
all_as d w g [] (a ∷ more) first ledger_first s ledger rules v h e f m = absurd h
all_as d w g (c ∷ cs) [] first ledger_first s ledger rules v h e f m = absurd h
all_as d w g (c ∷ cs) (a ∷ more) first ledger_first s ledger rules v h e f m =
    let between = h.0 in
    let one = h.2 in
    let same : with_totals g v.state ledger_first ≡ v = ap (λ x. record { state = v.state; totals = x }) (sym f) in
    let does : DoesAs d w g rules v c a between h.1 =
    subst (λ r. DoesAs d w g r v c a between h.1) e (subst (λ x. DoesAs d w g (rules_of d g first) x c a between h.1) same (one.does v.state m)) in
    let stay : rules_of d g between ≡ rules = ap (λ P. record { plans = P; requested = g.requested }) one.settings ∙ e in
    let rest = all_as d w g cs more between h.1 s ledger rules (after rules v c) h.3 stay (sym does.leaves) does.means in
    record {
      answers_are = ap (λ x. x ∷ replies_of more) does.answers ∙ ap (λ xs. reply rules v c ∷ xs) rest.answers_are;
      means = rest.means;
      leaves = rest.leaves;
    }

-- an answer put in its place
put_suc : {A : Type 0} (xs : List A) (i : ℕ) (x : A) → i < length xs → take (suc i) (set xs i x) ≡ take i xs ++ x ∷ []
put_suc [] i x l = absurd (omega (arith, l))
put_suc (y ∷ xs) zero x l = refl
put_suc (y ∷ xs) (suc i) x l = ap (λ zs. y ∷ zs) (put_suc xs i x (omega (arith, l)))

put_next : {A : Type 0} (xs : List A) (i : ℕ) (x : A) → i < length xs → take (i + 1) (set xs i x) ≡ take i xs ++ x ∷ []
put_next xs i x l = ap (λ n. take n (set xs i x)) (add-one i) ∙ put_suc xs i x l

-- from the first i calls of a list to the first i + 1
pub next_call : {D S L Q : Type 0} (d : Design.Ghosts D) (w : Source.Ghosts S) (g : Ledger.Ghosts L Q) (calls : List (Call Q)) (i : ℕ) (call : Call Q) (answers more : List Answer) (answer : Answer)
    (first : Survey D S d w) (ledger_first : L) (s : Survey D S d w) (ledger : L) (next : Survey D S d w) (ledger_next : L)
    → i < length calls → i < length answers → call ≡ slice_index_or calls i call → more ≡ set answers i answer
    → EachObeys d w g (take i calls) (take i answers) first ledger_first s ledger → Obeys d w g call answer s ledger next ledger_next
    → EachObeys d w g (take (i + 1) calls) (take (i + 1) more) first ledger_first next ledger_next
next_call d w g calls i call answers more answer first ledger_first s ledger next ledger_next l room at is h o =
    subst (λ cs. EachObeys d w g cs (take (i + 1) more) first ledger_first next ledger_next) (sym (take_more calls i call l at))
    (subst (λ as'. EachObeys d w g (take i calls ++ call ∷ []) as' first ledger_first next ledger_next)
    (sym (ap (λ xs. take (i + 1) xs) is ∙ put_next answers i answer room))
    (one_more d w g (take i calls) (take i answers) call answer first ledger_first s ledger next ledger_next h o))

pub all_calls : {A : Type 0} (xs : List A) (i : ℕ) → i ≡ length xs → take i xs ≡ xs
all_calls xs i e = ap (λ n. take n xs) e ∙ take-length xs

-- ---- calls, and places for their answers: k is the smaller number of the two
module _ {A B : Type 0} (xs : List A) (ys : List B) (k : ℕ) (is : k ≡ min (length xs) (length ys)) where
  many_placed : length (take k xs) ≡ k
  many_placed = length-take-le k xs (omega (arith, is, min-le_left (length xs) (length ys)))

  -- the call i has a place
  pub has_place : (i : ℕ) → i < length (take k xs) → (i < length xs) × (i < length ys)
  has_place i l = (omega (arith, l, many_placed, is, min-le_left (length xs) (length ys)), omega (arith, l, many_placed, is, min-le_right (length xs) (length ys)))

  first_placed : take k xs ≡ take (length ys) xs
  first_placed = ap (λ n. take n xs) (is ∙ min_comm (length xs) (length ys)) ∙ take_min (length ys) xs

  first_answered : (zs : List B) (i : ℕ) → length zs ≡ length ys → i ≡ length (take k xs) → take i zs ≡ take (length xs) zs
  first_answered zs i long end = ap (λ n. take n zs) (end ∙ many_placed ∙ is ∙ ap (min (length xs)) (sym long)) ∙ take_min (length xs) zs

-- at the end all calls that have a place are made
pub all_made : {D S L Q : Type 0} (d : Design.Ghosts D) (w : Source.Ghosts S) (g : Ledger.Ghosts L Q) (calls : List (Call Q)) (places answers : List Answer) (k i : ℕ)
    (first : Survey D S d w) (ledger_first : L) (s : Survey D S d w) (ledger : L)
    → k ≡ min (length calls) (length places) → length answers ≡ length places → i ≡ length (take k calls)
    → EachObeys d w g (take i (take k calls)) (take i answers) first ledger_first s ledger
    → EachObeys d w g (placed calls places) (answered calls answers) first ledger_first s ledger
all_made d w g calls places answers k i first ledger_first s ledger is long end h =
    subst (λ cs. EachObeys d w g cs (answered calls answers) first ledger_first s ledger) (all_calls (take k calls) i end ∙ first_placed calls places k is)
    (subst (λ as'. EachObeys d w g (take i (take k calls)) as' first ledger_first s ledger) (first_answered calls places k is answers i long end) h)

-- what stands before some rest
pub before_rest : {A : Type 0} (xs rest : List A) (n : ℕ) → n ≡ length xs → take n (xs ++ rest) ≡ xs
before_rest [] rest zero e = refl
before_rest [] rest (suc n) e = absurd (omega (arith, e))
before_rest (x ∷ xs) rest zero e = absurd (omega (arith, e))
before_rest (x ∷ xs) rest (suc n) e = ap (λ ys. x ∷ ys) (before_rest xs rest n (omega (arith, e)))

-- with a place for each call, all calls are made
pub each_made : {D S L Q : Type 0} (d : Design.Ghosts D) (w : Source.Ghosts S) (g : Ledger.Ghosts L Q) (calls : List (Call Q)) (places answers rest : List Answer) (n : ℕ)
    (first : Survey D S d w) (ledger_first : L) (s : Survey D S d w) (ledger : L)
    → length places ≡ length calls → length answers ≡ length places → n ≡ length answers
    → EachObeys d w g (placed calls places) (answered calls answers) first ledger_first s ledger → EachObeys d w g calls (take n (answers ++ rest)) first ledger_first s ledger
each_made d w g calls places answers rest n first ledger_first s ledger many long end h =
    subst (λ cs. EachObeys d w g cs (take n (answers ++ rest)) first ledger_first s ledger) (all_calls calls (length places) many)
    (subst (λ as'. EachObeys d w g (placed calls places) as' first ledger_first s ledger) (all_calls answers (length calls) (sym (long ∙ many)) ∙ sym (before_rest answers rest n end)) h)
