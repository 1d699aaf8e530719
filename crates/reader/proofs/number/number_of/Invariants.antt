use Rattle.std.proofs.Common.{◌≡◌, ◌-◌, ◌^◌, min, take, true}
use Rattle.std.specs.Str.{all_ascii_digits}
use Rattle.frame_file.specs.Fields.{read_on}
use Rattle.reader.proofs.number.number_of.Given as goal

abbrev pub invariant-loop-byte : goal.invariant-loop-byte
invariant-loop-byte l =
    (l.number ≡ min (read_on 0 (take l.byte-index l.field)) (2 ^ 64 - 1)) × (all_ascii_digits (take l.byte-index l.field) ≡ true)
