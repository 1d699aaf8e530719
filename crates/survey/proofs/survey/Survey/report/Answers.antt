use Rattle.std.proofs.Common.{◌≡◌, ℕ, ◌≤◌, Ok, Err, None, Result, length, sym, ap, subst, ◌∙◌, arith, rules}
use Rattle.outcomes.specs.Trees.{Sample}
use Rattle.design.specs.Faults.{refused_at}
use Rattle.design.proofs.Firsts.{few_rows, accepted, no_row}
use Rattle.plain_survey.specs.States.{State}
use Rattle.plain_survey.specs.Reports.{Tally, unlawful_at}
use Rattle.weights.specs.Of.{scale_in}
use Rattle.survey.specs.Adding.{Finished, Addable, Adds}
use Rattle.survey.specs.Means.{Means, plans, kind_of, tally_of}
use Rattle.survey.proofs.Reporting.{Given, given}
use Rattle.survey.proofs.Drawing.{all_exact}
use Rattle.survey.proofs.Estimating.{all_wide, left_estimates}
use Rattle.survey.proofs.survey.Survey.report.Goals as goal

not_both : {A B : Type 0} (r : Result A B) (a : A) (e : B) → r ≡ Ok a → r ≡ Err e → ⊥
not_both r a e f h = let z : ◌≡◌ {A = ℕ} 0 1 = cc in omega arith

one_answer : {A B : Type 0} (r : Result A B) (a b : A) → r ≡ Ok a → r ≡ Ok b → a ≡ b
one_answer r a b f h = cc

never : (g : _) (c : goal.After-from_residual-in_err-taken g) (st : State) (m : Means g.D.Design g.S.Source c.args.self.now st)
    → Given (kind_of g.T.Total) (plans g.D.Design c.args.self.now) st.run c.args.readings.now (tally_of g.T.Total c.args.total.now) (tally_of g.T.Total c.add_taken.new.total) (scale_in c.args.self.now.weights) c.add_taken.result
never g c st m =
    let s = c.args.self.now in
    let kind = kind_of g.T.Total in
    let xs = c.args.readings.now in
    let old = tally_of g.T.Total c.args.total.now in
    let new = tally_of g.T.Total c.add_taken.new.total in
    let few : length xs ≤ 1024 = omega (arith, c.if-readings-weights.false, ap length c.as_slice-weights.ensures, s.weights.few) in
    let passed : refused_at c.first_unlawful.result 26 ≡ None = (accepted (refused_at c.first_unlawful.result 26) (λ _. Unit {0}) c.in_ok-refuse_at.field-0 (c.in_ok-refuse_at.ensures.fits (few_rows (length xs) (unlawful_at kind xs) c.first_unlawful.result c.first_unlawful.ensures few))).0 in
    given kind (plans g.D.Design s) (g.D.Design.tree s.design) s.weights s.running st.run xs old new c.add_taken.result
    m.run (sym (c.has_outcome.ensures st m) ∙ c.if-not-has_outcome.false) (c.if-readings-weights.false ∙ ap length c.as_slice-weights.ensures)
    (sym c.first_unlawful.ensures ∙ no_row c.first_unlawful.result 26 passed)
    (subst (λ ws. (u : Sample) → Finished (g.D.Design.tree s.design) (length xs) u → Addable kind ws xs → Adds kind ws xs u new c.add_taken.result) c.as_slice-weights.ensures c.add_taken.ensures)

added : (g : _) (c : goal.In_ok-taken g) (st : State) (m : Means g.D.Design g.S.Source c.args.self.now st)
    → Given (kind_of g.T.Total) (plans g.D.Design c.args.self.now) st.run c.args.readings.now (tally_of g.T.Total c.args.total.now) (tally_of g.T.Total c.add_taken.new.total) (scale_in c.args.self.now.weights) c.add_taken.result
added g c st m =
    let s = c.args.self.now in
    let kind = kind_of g.T.Total in
    let xs = c.args.readings.now in
    let old = tally_of g.T.Total c.args.total.now in
    let new = tally_of g.T.Total c.add_taken.new.total in
    let few : length xs ≤ 1024 = omega (arith, c.if-readings-weights.false, ap length c.as_slice-weights.ensures, s.weights.few) in
    let passed : refused_at c.first_unlawful.result 26 ≡ None = (accepted (refused_at c.first_unlawful.result 26) (λ _. Unit {0}) c.in_ok-refuse_at.field-0 (c.in_ok-refuse_at.ensures.fits (few_rows (length xs) (unlawful_at kind xs) c.first_unlawful.result c.first_unlawful.ensures few))).0 in
    given kind (plans g.D.Design s) (g.D.Design.tree s.design) s.weights s.running st.run xs old new c.add_taken.result
    m.run (sym (c.has_outcome.ensures st m) ∙ c.if-not-has_outcome.false) (c.if-readings-weights.false ∙ ap length c.as_slice-weights.ensures)
    (sym c.first_unlawful.ensures ∙ no_row c.first_unlawful.result 26 passed)
    (subst (λ ws. (u : Sample) → Finished (g.D.Design.tree s.design) (length xs) u → Addable kind ws xs → Adds kind ws xs u new c.add_taken.result) c.as_slice-weights.ensures c.add_taken.ensures)

pub returns-in_err-refuse_at-clause-answer : goal.returns-in_err-refuse_at-clause-answer
returns-in_err-refuse_at-clause-answer g c st m =
    let xs = c.args.readings.now in
    let few : length xs ≤ 1024 = omega (arith, c.if-readings-weights.false, ap length c.as_slice-weights.ensures, c.args.self.now.weights.few) in
    let told = c.in_err-refuse_at.ensures.fits (few_rows (length xs) (unlawful_at (kind_of g.T.Total) xs) c.first_unlawful.result c.first_unlawful.ensures few) in
    search rules

pub returns-in_err-taken-clause-answer : goal.returns-in_err-taken-clause-answer
returns-in_err-taken-clause-answer g c st m = absurd (not_both c.add_taken.result (never g c st m).n c.in_err-taken.field-0.0 (never g c st m).number c.in_err-taken.was)

pub returns-in_err-taken-clause-total : goal.returns-in_err-taken-clause-total
returns-in_err-taken-clause-total g c st m = (never g c st m).left

pub returns-clause-answer : goal.returns-clause-answer
returns-clause-answer g c st m =
    let x = added g c st m in
    let same : c.in_ok-taken.taken ≡ x.n = one_answer c.add_taken.result c.in_ok-taken.taken x.n c.in_ok-taken.was x.number in
    ap (λ n. Ok (c.scale-scale.result, n)) same ∙ ap (λ n. Ok (n, x.n)) c.scale-scale.ensures ∙ sym x.told

pub returns-clause-total : goal.returns-clause-total
returns-clause-total g c st m = (added g c st m).left

pub returns-then-not-has_outcome-clause-exact : goal.returns-then-not-has_outcome-clause-exact
returns-then-not-has_outcome-clause-exact g c = all_exact g.D.Design g.S.Source c.args.self.now g.met.D.Design.exact

pub returns-then-readings-weights-clause-exact : goal.returns-then-readings-weights-clause-exact
returns-then-readings-weights-clause-exact g c = all_exact g.D.Design g.S.Source c.args.self.now g.met.D.Design.exact

pub returns-in_err-refuse_at-clause-exact : goal.returns-in_err-refuse_at-clause-exact
returns-in_err-refuse_at-clause-exact g c = all_exact g.D.Design g.S.Source c.args.self.now g.met.D.Design.exact

pub returns-in_err-taken-clause-exact : goal.returns-in_err-taken-clause-exact
returns-in_err-taken-clause-exact g c = all_exact g.D.Design g.S.Source c.args.self.now g.met.D.Design.exact

pub returns-clause-exact : goal.returns-clause-exact
returns-clause-exact g c = all_exact g.D.Design g.S.Source c.args.self.now g.met.D.Design.exact

pub returns-clause-estimates : goal.returns-clause-estimates
returns-clause-estimates g c st m =
    let s = c.args.self.now in
    let kind = kind_of g.T.Total in
    let x = added g c st m in
    left_estimates kind (plans g.D.Design s) (g.D.Design.tree s.design) s.weights s.running st.run c.args.readings.now (tally_of g.T.Total c.args.total.now)
    (g.T.Total.entries c.add_taken.new.total) c.scale-scale.result x.n
    (g.met.D.Design.sound s.design) m.run (all_wide kind (λ y l. (g.met.T.Total.rows y l).0) c.args.readings.now)
    (x.told ∙ ap (λ v. Ok (v, x.n)) (sym c.scale-scale.ensures)) (ap (λ (t : Tally). t.entries) x.left)
