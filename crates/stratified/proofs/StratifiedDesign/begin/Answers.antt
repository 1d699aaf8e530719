use Rattle.std.proofs.Common.{◌≡◌, length, None, sym, ap, ◌∙◌, ap₂}
use Rattle.design.proofs.Firsts.{accepted}
use Rattle.parts.specs.Running.{Tables, all_parts, run_from}
use Rattle.design.specs.Plans.{Plans, nothing}
use Rattle.parts.specs.Series.{numerators, part_refusal}
use Rattle.parts.specs.Trying.{with_shares}
use Rattle.layers.specs.Stratified.{strata, strata_refusal, series_run}
use Rattle.layers.proofs.Standings.{begun}
use Rattle.series.specs.Of.{IsReady, plans, standing, tables_of}
use Rattle.stratified.specs.Of.{takes_of}
use Rattle.stratified.proofs.Begun.{run_planned}
use Rattle.stratified.proofs.StratifiedDesign.begin.Goals as goal

pub returns-clause-begun : goal.returns-clause-begun
returns-clause-begun g c =
    let D = g.D.Design in
    let takes = takes_of c.args.self.now in
    let list = c.args.list.now in
    let B : Plans = D.plan c.args.self.now.strata.below in
    let cut = c.cut.new.self.strata in
    let tried = c.try_parts.new.self in
    let shares = (tables_of tried).shares in
    let cuts = accepted _ _ c.in_ok-cut.field-0 c.in_ok-cut.ensures.answers in
    let tries = accepted (part_refusal (plans D cut) (all_parts (tables_of cut))) (λ _. IsReady D tried) c.in_ok-try_parts.field-0 c.in_ok-try_parts.ensures.tried in
    let same : plans D cut ≡ B = ap (λ d. D.plan d) c.cut.ensures.same.below in
    let parts : part_refusal B (strata takes list) ≡ None =
    sym (ap₂ (λ (P : Plans) (v : Tables). part_refusal P (all_parts v)) same cuts.1) ∙ tries.0 in
    let run = c.in_ok-start.ensures.started tries.1 in
    begun _ (strata_refusal takes list c.args.n) (part_refusal B (strata takes list)) (numerators B (strata takes list)) (series_run B (strata takes list) (length list)) tt
    (standing D c.start.new.self) cuts.0 parts
    (run.1
    ∙ ap₂ (λ (P : Plans) (v : Tables). run_from P v 0 nothing) (c.try_parts.ensures.settings ∙ same) (c.try_parts.ensures.same ∙ ap (λ (v : Tables). with_shares v shares) cuts.1)
    ∙ run_planned B takes list shares)
