use Rattle.std.proofs.Common.{◌≡◌, ℕ, ◌/◌, ◌%◌, ◌<◌, ◌≤◌, length, get_or, replicate, option_map, unwrap_or, sym, ap, ◌∙◌, ap₂, arith}
use Rattle.std.specs.NonZero.{non_zero_u32_get}
use Rattle.std.proofs.lemmas.Bool.{ne_eqb, eq-eqb}
use Rattle.design.specs.Faults.{refusal_at}
use Rattle.design.specs.Lists.{total, list_refusal}
use Rattle.design.proofs.Firsts.{accepted}
use Rattle.design.proofs.Checks.{checked}
use Rattle.parts.specs.Parts.{bounds, same_cluster}
use Rattle.parts.specs.Running.{Tables, all_parts, sample_of}
use Rattle.parts.proofs.Places.{cut-length}
use Rattle.layers.specs.TwoStage.{clusters_refusal}
use Rattle.series.specs.Tables.{tables, asked}
use Rattle.layers.proofs.Standings.{answers_as, answers_ok}
use Rattle.two_stage.specs.Of.{number_set, cut_clusters}
use Rattle.two_stage.proofs.Cutting.{crowded, cut_fits, counted_clusters}
use Rattle.two_stage.proofs.TwoStage.cut.Goals as goal

positive : (m : ℕ) → 0 < m → m ≡ 0 → ⊥
positive m p z = omega (arith, p, z)

pub returns-then-count-gt-MOST_CLUSTERS-clause-answers : goal.returns-then-count-gt-MOST_CLUSTERS-clause-answers
returns-then-count-gt-MOST_CLUSTERS-clause-answers g c =
    let s = c.args.self.now in
    let m = c.get-m.result in
    let is : number_set s ≡ m = ap (λ w. unwrap_or (option_map non_zero_u32_get w) 0) c.in-Some.is ∙ sym c.get-m.ensures.value in
    let list = c.args.list.now in
    let v = tables c.cut.new.self in
    let lists = accepted (list_refusal list c.args.n) _ c.in_ok-check_list.field-0 c.in_ok-check_list.ensures in
    let cuts = accepted _ _ c.in_ok-cut.field-0 c.in_ok-cut.ensures.answers in
    let many : 129 < length (bounds same_cluster list) = omega (arith, c.if-count-gt-MOST_CLUSTERS.true, c.count.ensures, counted_clusters list v cuts.1) in
    answers_as (clusters_refusal (number_set s) list c.args.n) (refusal_at 15 (get_or (bounds same_cluster list) 128 0)) _ c.at.result
    (ap (λ k. clusters_refusal k list c.args.n) is ∙ crowded m list c.args.n (ne_eqb m 0 (positive m c.get-m.ensures.nonzero)) lists.0 cuts.0 (eq-eqb (c.args.n % m) 0 c.if-n-m-ne0.false) many)
    (c.at.ensures ∙ ap (refusal_at 15) (c.first_row-row.ensures ∙ ap (λ (w : Tables). get_or w.bounds 128 0) cuts.1))

pub returns-clause-answers : goal.returns-clause-answers
returns-clause-answers g c =
    let s = c.args.self.now in
    let m = c.get-m.result in
    let is : number_set s ≡ m = ap (λ w. unwrap_or (option_map non_zero_u32_get w) 0) c.in-Some.is ∙ sym c.get-m.ensures.value in
    let list = c.args.list.now in
    let v = tables c.cut.new.self in
    let lists = accepted (list_refusal list c.args.n) _ c.in_ok-check_list.field-0 c.in_ok-check_list.ensures in
    let cuts = accepted _ _ c.in_ok-cut.field-0 c.in_ok-cut.ensures.answers in
    let count = counted_clusters list v cuts.1 in
    let few : length (bounds same_cluster list) ≤ 129 = omega (arith, c.if-count-gt-MOST_CLUSTERS.false, c.count.ensures, count) in
    let clusters = c.ask_each.ensures ∙ ap₂ (λ (w : Tables) (k : ℕ). asked w (replicate k m)) cuts.1 count in
    answers_ok (clusters_refusal (number_set s) list c.args.n) _ _
    (ap (λ k. clusters_refusal k list c.args.n) is ∙ cut_fits m list c.args.n (ne_eqb m 0 (positive m c.get-m.ensures.nonzero)) lists.0 cuts.0 (eq-eqb (c.args.n % m) 0 c.if-n-m-ne0.false) few)
    (record {
      clusters = clusters ∙ ap (λ k. cut_clusters k list) (sym is);
      drawn = ap (λ k. c.args.n / k) (sym is);
      few = omega (arith, ap (λ (w : Tables). length (all_parts w)) clusters, cut-length (sample_of (cut_clusters m list)) list (bounds same_cluster list), few);
      small = omega (arith, ap (λ (w : Tables). total w.rows) clusters, (checked list c.args.n lists.0).small);
    })
