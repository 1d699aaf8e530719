-- A request for a report of readings of a kind is the report of these readings.
use Rattle.std.specs.Prelude.{All}
use Rattle.std.proofs.Common.{◌≡◌, refl, ℕ, zero, suc, ◌+◌, ◌<◌, Bool, true, List, [], ◌∷◌, ◌++◌, map, length, Option, Some, None, sym, ap, ◌∙◌, not, slice_index_or, arith, ℤ, pos, replicate}
use Rattle.std.specs.Prelude.{◌==◌}
use Rattle.design.specs.Faults.{Refusal, refused_if, refused_at, first_of}
use Rattle.outcomes.specs.Sums.{count}
use Rattle.design.specs.Lists.{first}
use Rattle.design.specs.Plans.{Plans, outcome}
use Rattle.plain_survey.specs.States.{PlainRun}
use Rattle.plain_survey.specs.Calls.{answer, weight_in}
use Rattle.plain_survey.specs.Reports.{Kind, Tally, unlawful_at, added, is_finished, report_of, report_refusal, report_answer, report_tally, reported, unless}
use Rattle.plain_survey.specs.Requests.{Reading, Request, taken_by, request, kind_in, request_answer, change_at, IsFor, either_requests}
use Rattle.plain_survey.specs.declared.either.Either.{Either}
use Rattle.plain_survey.specs.declared.either.Either.TheVariants.{First, Second}

-- as many readings, as lawful, with the same rows
long_as : {R : Type 0} (kind : Kind R) (xs : List R) → length (taken_by kind xs) ≡ length xs
long_as kind [] = refl
long_as kind (x ∷ xs) = ap suc (long_as kind xs)

lawful_as : {R : Type 0} (kind : Kind R) (xs : List R) → map (λ (x : Reading). x.is_lawful) (taken_by kind xs) ≡ map kind.is_lawful xs
lawful_as kind [] = refl
lawful_as kind (x ∷ xs) = ap (λ bs. kind.is_lawful x ∷ bs) (lawful_as kind xs)

rows_as : {R : Type 0} (kind : Kind R) (xs : List R) → map (λ (x : Reading). x.row) (taken_by kind xs) ≡ map kind.row xs
rows_as kind [] = refl
rows_as kind (x ∷ xs) = ap (λ rs. kind.row x ∷ rs) (rows_as kind xs)

abbrev refusal_by : PlainRun → ℕ → (ℕ → Bool) → Option Refusal
refusal_by r n unlawful = first_of (refused_if (not (is_finished r.tree)) 24 ∷ refused_if (not (n == length r.list)) 25 ∷ refused_at (first n unlawful) 26 ∷ [])

refusal_as : {R : Type 0} (into : ℕ) (kind : Kind R) (r : PlainRun) (xs : List R)
    → report_refusal (kind_in (request into kind xs)) r (taken_by kind xs) ≡ report_refusal kind r xs
refusal_as {R} into kind r xs =
    let same : unlawful_at (kind_in (request into kind xs)) (taken_by kind xs) ≡ unlawful_at kind xs = ap (λ bs k. not (slice_index_or bs k true)) (lawful_as kind xs) in
    go (length (taken_by kind xs)) (long_as kind xs) (unlawful_at (kind_in (request into kind xs)) (taken_by kind xs)) same
  where
    go : (n : ℕ) → n ≡ length xs → (f : ℕ → Bool) → f ≡ unlawful_at kind xs → refusal_by r n f ≡ refusal_by r (length xs) (unlawful_at kind xs)
    go n e f h = ap (λ m. refusal_by r m f) e ∙ ap (λ g. refusal_by r (length xs) g) h

pub answer_as : {R : Type 0} (into : ℕ) (kind : Kind R) (P : Plans) (run : Option PlainRun) (xs : List R) → report_answer kind P run xs ≡ request_answer (request into kind xs) P run
answer_as into kind P None xs = refl
answer_as into kind P (Some r) xs = ap (λ f. answer f (reported P r)) (sym (refusal_as into kind r xs))

pub tally_as : {R : Type 0} (into : ℕ) (kind : Kind R) (P : Plans) (run : Option PlainRun) (xs : List R) (t : Tally)
    → report_tally kind P run xs t ≡ report_tally (kind_in (request into kind xs)) P run (taken_by kind xs) t
tally_as into kind P None xs t = refl
tally_as into kind P (Some r) xs t =
    ap (λ f. unless f (report_of kind P r (outcome r.tree) xs) t) (sym (refusal_as into kind r xs))
    ∙ ap (λ rows. unless (report_refusal (kind_in (request into kind xs)) r (taken_by kind xs)) (left_by rows) t) (sym (rows_as kind xs))
  where
    left_by : List (List ℤ) → Tally
    left_by rows = record {
      entries = added (length r.list) (outcome r.tree) (weight_in (P r.list r.n) r.list) (λ k. slice_index_or rows k []) (replicate kind.width (pos 0));
      additions = count (length r.list) (outcome r.tree);
    }

-- ---- totals side by side
pub change_first : (n : ℕ) (f : Tally → Tally) (xs ys : List Tally) → n < length xs → change_at n f (xs ++ ys) ≡ change_at n f xs ++ ys
change_first n f [] ys l = absurd (omega (arith, l))
change_first zero f (x ∷ xs) ys l = refl
change_first (suc n) f (x ∷ xs) ys l = ap (λ ts. x ∷ ts) (change_first n f xs ys (omega (arith, l)))

second_at : (n p : ℕ) (f : Tally → Tally) (xs ys : List Tally) → p ≡ length xs + n → change_at p f (xs ++ ys) ≡ xs ++ change_at n f ys
second_at n p f [] ys e = ap (λ k. change_at k f ys) (let q : p ≡ n = omega (arith, e) in q)
second_at n zero f (x ∷ xs) ys e = absurd (omega (arith, e))
second_at n (suc p) f (x ∷ xs) ys e = ap (λ ts. x ∷ ts) (second_at n p f xs ys (omega (arith, e)))

pub change_second : (n m : ℕ) (f : Tally → Tally) (xs ys : List Tally) → length xs ≡ m → change_at (m + n) f (xs ++ ys) ≡ xs ++ change_at n f ys
change_second n m f xs ys e = second_at n (m + n) f xs ys (omega (arith, e))

-- the rows of readings of a kind are as wide as that kind's
pub wide_as : {R : Type 0} (kind : Kind R) → ((x : R) → kind.is_lawful x ≡ true → length (kind.row x) ≡ kind.width) → (xs : List R)
    → All (λ (x : Reading). x.is_lawful ≡ true → length x.row ≡ kind.width) (taken_by kind xs)
wide_as kind rows [] k d l = absurd (omega (arith, l))
wide_as kind rows (x ∷ xs) zero d l = rows x
wide_as kind rows (x ∷ xs) (suc k) d l = wide_as kind rows xs k d (omega (arith, l))

-- ---- requests are for totals that are there
pub one_for : {R : Type 0} (kind : Kind R) → ((x : R) → kind.is_lawful x ≡ true → length (kind.row x) ≡ kind.width) → (xs : List R) → IsFor 1 (request 0 kind xs)
one_for kind rows xs = record { there = omega arith; rows = wide_as kind rows xs }

pub either_for : {P Q : Type 0} (f : P → Request) (m : ℕ) (g : Q → Request) (n : ℕ) → ((p : P) → IsFor m (f p)) → ((q : Q) → IsFor n (g q)) → (x : Either P Q) → IsFor (m + n) (either_requests f m g x)
either_for f m g n a b (First p) = record { there = let l = (a p).there in omega (arith, l); rows = (a p).rows }
either_for f m g n a b (Second q) = record { there = let l = (b q).there in omega (arith, l); rows = (b q).rows }

pub many_in : (xs ys : List Tally) (m n : ℕ) → length xs ≡ m → length ys ≡ n → length (xs ++ ys) ≡ m + n
many_in [] ys m n e f = omega (arith, e, f)
many_in (x ∷ xs) ys zero n e f = absurd (omega (arith, e))
many_in (x ∷ xs) ys (suc m) n e f = let h = many_in xs ys m n (omega (arith, e)) f in omega (arith, h)
