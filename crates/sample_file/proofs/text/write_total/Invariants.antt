use Rattle.std.proofs.Common.{◌≡◌, ◌++◌, string_bytes, take}
use Rattle.std.specs.List.{flat_map}
use Rattle.sample_file.proofs.Entries.{after_comma}
use Rattle.sample_file.proofs.text.write_total.Given as goal

abbrev pub invariant-loop-i : goal.invariant-loop-i
invariant-loop-i g l =
    string_bytes l.out ≡ (string_bytes l.fn.out ++ l.name) ++ flat_map after_comma (take l.i (g.T.Total.entries l.total))
