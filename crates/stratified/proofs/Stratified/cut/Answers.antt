use Rattle.std.proofs.Common.{◌≡◌, ℕ, true, false, eqb, List, length, sym, ap, ◌∙◌, subst, ap₂}
use Rattle.std.specs.Prelude.{MatchBool}
use Rattle.std.proofs.lemmas.Bool.{ne_eqb, eq-eqb}
use Rattle.design.specs.Faults.{refusal}
use Rattle.parts.specs.Running.{Tables}
use Rattle.design.proofs.Firsts.{accepted}
use Rattle.layers.specs.Stratified.{strata, strata_refusal, total_take}
use Rattle.series.specs.Tables.{tables, asked}
use Rattle.stratified.specs.Of.{takes_of}
use Rattle.layers.proofs.Standings.{answers_as, answers_ok}
use Rattle.stratified.proofs.Cutting.{not_as_many, not_total, cut_fits, counted_strata}
use Rattle.stratified.proofs.Stratified.cut.Goals as goal

pub returns-then-not-ask-clause-answers : goal.returns-then-not-ask-clause-answers
returns-then-not-ask-clause-answers g c =
    let takes = takes_of c.args.self.now in
    let list = c.args.list.now in
    let cuts = accepted _ _ c.in_ok-cut.field-0 c.in_ok-cut.ensures.answers in
    let as_many : eqb (length (strata takes list)) (length takes) ≡ false =
    ap₂ eqb (sym (counted_strata takes list (tables c.cut.new.self) cuts.1)) (sym (ap length c.as_slice.ensures)) ∙ sym c.ask.ensures.fits ∙ c.if-not-ask.true in
    answers_as (strata_refusal takes list c.args.n) (refusal 12) _ c.of-then-not-ask.result
    (not_as_many takes list c.args.n (sym c.is_empty.ensures ∙ c.if-is_empty.false) cuts.0 as_many) c.of-then-not-ask.ensures

pub returns-then-total-from-clause-answers : goal.returns-then-total-from-clause-answers
returns-then-total-from-clause-answers g c =
    let takes = takes_of c.args.self.now in
    let list = c.args.list.now in
    let cuts = accepted _ _ c.in_ok-cut.field-0 c.in_ok-cut.ensures.answers in
    let as_many : eqb (length (strata takes list)) (length takes) ≡ true =
    ap₂ eqb (sym (counted_strata takes list (tables c.cut.new.self) cuts.1)) (sym (ap length c.as_slice.ensures)) ∙ sym c.ask.ensures.fits ∙ c.if-not-ask.false in
    answers_as (strata_refusal takes list c.args.n) (refusal 13) _ c.of-then-total-from.result
    (not_total takes list c.args.n (sym c.is_empty.ensures ∙ c.if-is_empty.false) cuts.0 as_many (ne_eqb (total_take takes) c.args.n (λ e. c.if-total-from.true (c.total.ensures ∙ e ∙ sym c.from.ensures))))
    c.of-then-total-from.ensures

pub returns-clause-answers : goal.returns-clause-answers
returns-clause-answers g c =
    let takes = takes_of c.args.self.now in
    let list = c.args.list.now in
    let cuts = accepted _ _ c.in_ok-cut.field-0 c.in_ok-cut.ensures.answers in
    let as_many : eqb (length (strata takes list)) (length takes) ≡ true =
    ap₂ eqb (sym (counted_strata takes list (tables c.cut.new.self) cuts.1)) (sym (ap length c.as_slice.ensures)) ∙ sym c.ask.ensures.fits ∙ c.if-not-ask.false in
    let v = tables c.cut.new.self in
    let w = tables c.ask.new.self in
    answers_ok (strata_refusal takes list c.args.n) _ tt
    (cut_fits takes list c.args.n (sym c.is_empty.ensures ∙ c.if-is_empty.false) cuts.0 as_many (eq-eqb (total_take takes) c.args.n (sym c.total.ensures ∙ c.if-total-from.false ∙ c.from.ensures)))
    (subst (λ b. MatchBool b (w ≡ asked v c.as_slice.result.now) (w ≡ v)) c.if-not-ask.false c.ask.ensures.asked
    ∙ ap₂ (λ (x : Tables) (xs : List ℕ). asked x xs) cuts.1 c.as_slice.ensures)
