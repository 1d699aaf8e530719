use Rattle.std.proofs.Common.{◌≤◌, length, ap, arith, rules}
use Rattle.std.proofs.lemmas.List.{length-replicate}
use Rattle.series.proofs.Tabled.{counted, few_parts}
use Rattle.series.proofs.table.PartTable.ask_each.Goals as goal

pub invariant_of-self : goal.invariant_of-self
invariant_of-self c =
    let t = c.args.self.now in
    let few : c.count-count.result ≤ 1024 = omega (arith, c.count-count.ensures, few_parts t) in
    record {
      rows_few = t.rows_few;
      shares_all = t.shares_all;
      taken_all = t.taken_all;
      bounds_rise = t.bounds_rise;
      bounds_few = t.bounds_few;
      samples_all = omega (arith, ap length (c.fill.ensures.filled few), length-replicate c.count-count.result c.args.sample, c.count-count.ensures, counted t, t.chosen_all);
      chosen_all = t.chosen_all;
      stage_within = t.stage_within;
    }

pub returns : goal.returns
returns c =
    let t = c.args.self.now in
    let few : c.count-count.result ≤ 1024 = omega (arith, c.count-count.ensures, few_parts t) in
    let filled = c.fill.ensures.filled few in
    search rules
