use Rattle.std.proofs.Common.{◌≤◌, length, ap, arith, rules}
use Rattle.series.proofs.Tabled.{counted, few_parts}
use Rattle.series.proofs.table.PartTable.ask.Goals as goal

pub invariant_of-self : goal.invariant_of-self
invariant_of-self c =
    let t = c.args.self.now in
    let few : length c.args.samples.now ≤ 1024 = omega (arith, c.if-fits.true, c.count.ensures, few_parts t) in
    record {
      rows_few = t.rows_few;
      shares_all = t.shares_all;
      taken_all = t.taken_all;
      bounds_rise = t.bounds_rise;
      bounds_few = t.bounds_few;
      samples_all = omega (arith, ap length (c.copy_from.ensures.copied few), c.if-fits.true, c.count.ensures, counted t, t.chosen_all);
      chosen_all = t.chosen_all;
      stage_within = t.stage_within;
    }

pub returns-then-fits-clause-asked : goal.returns-then-fits-clause-asked
returns-then-fits-clause-asked c =
    let t = c.args.self.now in
    let few : length c.args.samples.now ≤ 1024 = omega (arith, c.if-fits.true, c.count.ensures, few_parts t) in
    let copied = c.copy_from.ensures.copied few in
    search rules
