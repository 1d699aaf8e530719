-- The plan of a plain design, whatever its tree.
use Rattle.std.proofs.Common.{◌≡◌, ℕ, ◌<◌, Bool, true, false, eqb, ltb, ◌⊎◌, List, length, get_or, Some, None, Option, sym, refl, subst, inl, inr, arith}
use Rattle.outcomes.specs.Trees.{Tree, Sample, Share, Lawful}
use Rattle.design.specs.Faults.{Refusal, or_else, refused_if, refused_at}
use Rattle.design.specs.Lists.{first, no_size, passes, total}
use Rattle.design.specs.Design.{plan_of, SoundPlan}
use Rattle.design.specs.declared.row.Row.{Row}
use Rattle.design.proofs.Firsts.{first_below}
use Rattle.methods.specs.Plain.{goals, above_total, plain_refusal, plain_run, plain_plan}
use Rattle.methods.proofs.Goals.{Fine, fine, goal_some, goal_most}

-- ---- a refusal names row 0 or a row of the list
module _ (list : List Row) where
  abbrev Named : Option Refusal → Type 0
  Named None = Unit {0}
  Named (Some f) = (f.row ≡ 0) ⊎ (f.row < length list)

  either : (x y : Option Refusal) → Named x → Named y → Named (or_else x y)
  either None y p q = q
  either (Some f) y p q = p

  whole : (b : Bool) (number : ℕ) → Named (refused_if b number)
  whole true number = inl refl
  whole false number = tt

  row : (test : ℕ → Bool) (number : ℕ) → Named (refused_at (first (length list) test) number)
  row test number = by (first (length list) test) refl
    where
      by : (o : Option ℕ) → first (length list) test ≡ o → Named (refused_at o number)
      by None e = tt
      by (Some k) e = inr (first_below (length list) test k e)

  named : (n : ℕ) → Named (plain_refusal list n)
  named n =
      either _ _
      (either _ _ (either _ _ (whole (eqb (length list) 0) 1) (either _ _ (whole (ltb 1024 (length list)) 2) tt))
      (either _ _ (whole (eqb n 0) 3) (either _ _ (row (no_size list) 4) (either _ _ (row (passes list) 5) tt))))
      (row (above_total list n) 6)

pub plain_sound : (list : List Row) (n : ℕ) (t : Tree Sample)
    → (Fine list n → Lawful (length list) t)
    → (Fine list n → (k : ℕ) → k < length list → Share k (get_or (goals list n) k 0) (total list) t)
    → SoundPlan list (plain_plan list n t)
plain_sound list n t lawful fair = cases (plain_refusal list n) refl
  where
    cases : (o : Option Refusal) → plain_refusal list n ≡ o → SoundPlan list (plan_of o (λ k. get_or (goals list n) k 0) (plain_run (total list) (length list) t))
    cases (Some x) e = subst (Named list) e (named list n)
    cases None e =
        let f = fine list n e in
        record {
          some_rows = f.checks.some_rows;
          few_rows = f.checks.few_rows;
          units_listed = refl;
          lawful = lawful f;
          prescribed = λ k l. (goal_some list n k f l, goal_most list n k f l, omega (arith, f.checks.small));
          fair = λ k l. fair f k l;
        }

-- what the preparation of an accepted list leaves: no refusal, the total and the goals
pub record Prepared (list : List Row) (n all : ℕ) (items : List ℕ) : Type 0 where
  pub accepts : plain_refusal list n ≡ None
  pub all_is : all ≡ total list
  pub items_are : items ≡ goals list n

-- what holds of total and goals of a list without refusal holds of what is prepared
pub prepared_fine : (list : List Row) (n all : ℕ) (items : List ℕ) → Prepared list n all items → (P : ℕ → List ℕ → Type 0) → (Fine list n → P (total list) (goals list n)) → P all items
prepared_fine list n all items p P h =
    subst (λ x. P x items) (sym p.all_is) (subst (λ xs. P (total list) xs) (sym p.items_are) (h (fine list n p.accepts)))
