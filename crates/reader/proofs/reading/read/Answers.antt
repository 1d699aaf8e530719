use Rattle.reader.proofs.Promises.{exactly, is_refusal, is_first_wrong, nothing_wrong}
use Rattle.reader.proofs.reading.read.Goals as goal

pub returns : goal.returns
returns c =
    let bytes = c.args.bytes.now in
    let result = c.read_lines.result in
    let h = c.read_lines.ensures in
    record { exactly = exactly bytes result h; refused = is_refusal bytes result h; first = is_first_wrong bytes result h; else_nothing = nothing_wrong bytes result h }
