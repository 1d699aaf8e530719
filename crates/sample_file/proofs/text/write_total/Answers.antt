use Rattle.std.proofs.Common.{◌++◌, string_bytes, sym, ◌∙◌, arith}
use Rattle.std.proofs.lemmas.Int.{to_z-of_z}
use Rattle.std.proofs.lemmas.Result.{on_ok_weaker}
use Rattle.sample_file.proofs.Entries.{one_entry_more, total_written}
use Rattle.sample_file.proofs.text.write_total.Goals as goal

pub loop-i-preserved : goal.loop-i-preserved
loop-i-preserved g c =
    let e = one_entry_more (string_bytes c.args.out.now ++ c.args.name.now) (g.T.Total.entries c.args.total.now) c.loop-i.i c.unwrap-entry.result (sym c.entry.ensures ∙ c.unwrap-entry.ensures) in
    grind (arith, to_z-of_z)

pub returns : goal.returns
returns g c =
    let entries = g.T.Total.entries c.args.total.now in
    on_ok_weaker c.writeln.result (total_written (string_bytes c.args.out.now) (string_bytes c.loop-i.out) (string_bytes c.writeln.new.self) c.args.name.now entries c.loop-i.i (omega (arith, g.met.T.Total.wide c.args.total.now)) c.loop-i.invariant) c.writeln.ensures.bytes
