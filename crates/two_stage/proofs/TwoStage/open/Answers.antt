use Rattle.std.proofs.Common.{◌≡◌, List, length, map, sym, ap, ◌∙◌, subst}
use Rattle.std.proofs.lemmas.List.{length-map}
use Rattle.design.specs.Faults.{Answers}
use Rattle.design.specs.Design.{Plan}
use Rattle.design.specs.declared.row.Row.{Row}
use Rattle.design.proofs.Firsts.{accepted}
use Rattle.design.specs.Plans.{Plans}
use Rattle.parts.specs.Series.{part_refusal}
use Rattle.parts.specs.Running.{Tables, all_parts, Begins, Loaded}
use Rattle.layers.specs.TwoStage.{cluster_row, first_refusal, product_refusal}
use Rattle.layers.specs.Stages.{in_first, FirstUnderway}
use Rattle.layers.proofs.Standings.{answers_last}
use Rattle.series.specs.Of.{IsReady, plans, tables_of}
use Rattle.two_stage.specs.Of.{first_does}
use Rattle.two_stage.proofs.Begun.{units_begun, products_are, first_run, first_underway}
use Rattle.two_stage.proofs.TwoStage.open.Goals as goal

pub returns-clause-answers : goal.returns-clause-answers
returns-clause-answers g c =
    let s = c.args.self.now in
    let v = tables_of s.second in
    let B = plans g.B.Design s.second in
    let ps = all_parts v in
    let a : Plan = first_does g.A.Design s c.args.drawn in
    let x = c.try_parts.new.self in
    let w = tables_of x in
    let st = g.A.Design.tree c.begin_first.new.first in
    let cluster_rows : c.as_slice.result.now ≡ map cluster_row ps = c.as_slice.ensures ∙ c.fill.ensures in
    let F : List Row → Type 0 = λ list.
    Answers (first_refusal v.bounds (g.A.Design.plan s.first list c.args.drawn)) (λ _. Begins (g.A.Design.plan s.first list c.args.drawn) st) c.begin_first.result in
    let begun = accepted (first_refusal v.bounds a) (λ _. Begins a st) c.in_ok-begin_first.field-0
    (subst (λ r. Answers (first_refusal v.bounds a) (λ _. Begins a st) r) c.in_ok-begin_first.was (subst F cluster_rows c.begin_first.ensures.begun)) in
    let tries = accepted (part_refusal B ps) (λ _. IsReady g.B.Design x) c.in_ok-try_parts.field-0 c.in_ok-try_parts.ensures.tried in
    let L = subst (λ (P : Plans). Loaded P w) c.try_parts.ensures.settings tries.1.loaded in
    let parts : all_parts w ≡ ps = ap all_parts c.try_parts.ensures.same in
    let rows : length w.rows ≡ length v.rows = ap (λ (u : Tables). length u.rows) c.try_parts.ensures.same in
    let sound = g.met.A.Design.sound s.first (map cluster_row ps) c.args.drawn in
    let units = units_begun (map cluster_row ps) a st sound begun.1 ∙ length-map ps cluster_row ∙ ap length (sym parts) in
    let last = subst (λ o. Answers {A = Unit {0}} o (λ _. Unit {0}) c.check_products.result) (products_are B w L a st begun.1 ps v.rows parts rows)
    (c.check_products.ensures units) in
    answers_last (first_refusal v.bounds a) (part_refusal B ps) (product_refusal a B ps (length v.rows)) (λ _. Unit {0}) _ c.check_products.result begun.0 tries.0 last
    (λ none u. record {
      underway = record {
        underway = subst (λ (P : Plans). FirstUnderway P w st) (sym c.try_parts.ensures.settings)
            (first_underway B w L a st begun.1 ps v.rows parts rows sound none);
        at_first = tries.1.at_first;
      };
      run = ap (λ (P : Plans). in_first P w st) c.try_parts.ensures.settings ∙ first_run B w L a st begun.1 ps v.rows parts rows;
    })
