-- Readings in their order: the first unlawful one, and the lawful ones.
use Rattle.std.proofs.Common.{◌≡◌, refl, ℕ, zero, suc, ◌<◌, ◌≤◌, Bool, true, false, cond, not, ℤ, List, [], ◌∷◌, map, length, None, Some, sym, ap, ◌∙◌, ltb, eqb, slice_index_or, arith}
use Rattle.std.specs.List.{position}
use Rattle.std.proofs.lemmas.Bool.{eq-eqb, ltb-false, false≢true}
use Rattle.outcomes.specs.Trees.{Tree, finished, branching, Sample}
use Rattle.design.specs.Faults.{or_else, first_of, refused_if, refused_at}
use Rattle.design.specs.Design.{Plan, refuses, accepts}
use Rattle.design.specs.Lists.{first}
use Rattle.design.specs.declared.row.Row.{Row}
use Rattle.design.proofs.Firsts.{first_item, first_none, neither, no_row}
use Rattle.totals.specs.Rows.{raised}
use Rattle.weights.specs.Scale.{scale_of, design_weight, too_heavy}
use Rattle.plain_survey.specs.States.{PlainRun}
use Rattle.plain_survey.specs.Calls.{start_refusal, weight_in}
use Rattle.plain_survey.specs.Reports.{Kind, unlawful_at, row_of_reading, added, is_finished, report_refusal}
use Rattle.design.specs.Plans.{outcome}

-- an item of a list of images is the image of the item
at_map : {A B : Type 0} (f : A → B) (xs : List A) (k : ℕ) (d : A) (e : B) → k < length xs → slice_index_or (map f xs) k e ≡ f (slice_index_or xs k d)
at_map f [] k d e l = absurd (omega (arith, l))
at_map f (x ∷ xs) zero d e l = refl
at_map f (x ∷ xs) (suc k) d e l = at_map f xs k d e (omega (arith, l))

first_same : (n : ℕ) (p q : ℕ → Bool) → ((k : ℕ) → k < n → p k ≡ q k) → first n p ≡ first n q
first_same zero p q h = refl
first_same (suc n) p q h = ap (λ o. or_else o (cond (p n) (Some n) None)) (first_same n p q (λ k l. h k (omega arith))) ∙ ap (λ b. or_else (first n q) (cond b (Some n) None)) (h n (omega arith))

pub first_unlawful : {R : Type 0} (kind : Kind R) (readings : List R) → position (λ x. not (kind.is_lawful x)) readings ≡ first (length readings) (unlawful_at kind readings)
first_unlawful kind [] = refl
first_unlawful kind (x ∷ more) =
    first_item (λ y. not (kind.is_lawful y)) (x ∷ more) x
    ∙ first_same (length (x ∷ more)) (λ k. not (kind.is_lawful (slice_index_or (x ∷ more) k x))) (unlawful_at kind (x ∷ more))
    (λ k l. ap not (sym (at_map kind.is_lawful (x ∷ more) k x true l)))

-- where no reading is unlawful, each is lawful
pub lawful_at : {R : Type 0} (kind : Kind R) (readings : List R) (k : ℕ) (x : R) → k < length readings → first (length readings) (unlawful_at kind readings) ≡ None → x ≡ slice_index_or readings k x
    → kind.is_lawful x ≡ true
lawful_at kind readings k x l none is =
    yes (kind.is_lawful x) (ap (λ y. not (kind.is_lawful y)) is ∙ ap not (sym (at_map kind.is_lawful readings k x true l)) ∙ first_none (length readings) (unlawful_at kind readings) none k l)
  where
    yes : (b : Bool) → not b ≡ false → b ≡ true
    yes true h = refl
    yes false h = sym h

pub row_is : {R : Type 0} (kind : Kind R) (readings : List R) (k : ℕ) (x : R) → k < length readings → x ≡ slice_index_or readings k x → kind.row x ≡ row_of_reading kind readings k
row_is kind readings k x l is = ap kind.row is ∙ sym (at_map kind.row readings k x [] l)

-- ---- what a report adds
-- weights that agree leave the same
pub added_same : (k : ℕ) (u : Sample) (v w : ℕ → ℕ) (rows : ℕ → List ℤ) (es : List ℤ) → ((j : ℕ) → j < k → v j ≡ w j) → added k u v rows es ≡ added k u w rows es
added_same zero u v w rows es h = refl
added_same (suc k) u v w rows es h =
    ap (λ x. cond (u k) (raised (v k) x (rows k)) x) (added_same k u v w rows es (λ j l. h j (omega arith)))
    ∙ ap (λ y. cond (u k) (raised y (added k u w rows es) (rows k)) (added k u w rows es)) (h k (omega arith))

-- a tree that has come to its outcome
pub finished_is : (t : Tree Sample) → is_finished t ≡ true → t ≡ finished (outcome t)
finished_is (finished u) e = refl
finished_is (branching m sub) e = absurd (false≢true e)

-- a run that nothing speaks against is reported
pub unrefused : {R : Type 0} (kind : Kind R) (r : PlainRun) (u : Sample) (readings : List R) → r.tree ≡ finished u → length readings ≡ length r.list
    → first (length readings) (unlawful_at kind readings) ≡ None → report_refusal kind r readings ≡ None
unrefused kind r u readings done long lawful =
    ap (λ t. first_of (refused_if (not (is_finished t)) 24 ∷ refused_if (not (eqb (length readings) (length r.list))) 25 ∷ refused_at (first (length readings) (unlawful_at kind readings)) 26 ∷ [])) done
    ∙ ap (λ b. first_of (refused_if (not b) 25 ∷ refused_at (first (length readings) (unlawful_at kind readings)) 26 ∷ [])) (eq-eqb (length readings) (length r.list) long)
    ∙ ap (λ o. first_of (refused_at o 26 ∷ [])) lawful

-- ---- the weights of a start that is accepted
pub light : (p : Plan) (list : List Row) → start_refusal p list ≡ None → (k : ℕ) → k < length list → weight_in p list k ≤ 1000000000
light (refuses f) list e k l = absurd (let z : ◌≡◌ {A = ℕ} 0 1 = cc in (let y : ⊥ = omega arith in y))
light (accepts num run) list e k l =
    let scale = scale_of (length list) num run.denominator in
    let heavy = first (length list) (too_heavy scale num run.denominator) in
    let second = neither (refused_if (ltb 1000000 scale) 22) (first_of (refused_at heavy 23 ∷ [])) e in
    ltb-false 1000000000 (design_weight scale (num k) (run.denominator k))
    (first_none (length list) (too_heavy scale num run.denominator) (no_row heavy 23 (neither (refused_at heavy 23) None second.1).0) k l)
