use Rattle.std.proofs.Common.{◌∙◌, arith}
use Rattle.frame_laws.proofs.LineSteps.{within_length}
use Rattle.reader.proofs.Exits.{exit}
use Rattle.reader.proofs.LinesRead.{bytes_are, header_passed, no_line, nothing_passed, takes_passed, wrong_in_line}
use Rattle.reader.proofs.reading.read_lines.Goals as goal

pub returns-in_err-frame : goal.returns-in_err-frame
returns-in_err-frame c =
    let bytes = c.args.bytes.now in
    let none = nothing_passed bytes c.new-lines.result c.new-lines.ensures in
    exit _ _ _ _ c.from_residual-in_err-frame.ensures.1
    (within_length bytes c.if-bytes-gt-MOST_BYTES.false ∙ wrong_in_line none c.in_ok-required.ensures.taken (omega arith) c.in_err-frame.ensures.refused)

pub returns-in_err-required-2 : goal.returns-in_err-required-2
returns-in_err-required-2 c =
    let bytes = c.args.bytes.now in
    let none = nothing_passed bytes c.new-lines.result c.new-lines.ensures in
    let header = header_passed none c.in_ok-required.ensures.taken c.in_ok-frame.ensures.read in
    exit _ _ _ _ c.from_residual-in_err-required-2.ensures.1
    (within_length bytes c.if-bytes-gt-MOST_BYTES.false ∙ no_line header c.required-2.new.self c.in_err-required-2.ensures.missing c.in_err-required-2.ensures.number (omega arith))

pub returns-in_err-read_takes : goal.returns-in_err-read_takes
returns-in_err-read_takes c =
    let bytes = c.args.bytes.now in
    let none = nothing_passed bytes c.new-lines.result c.new-lines.ensures in
    let header = header_passed none c.in_ok-required.ensures.taken c.in_ok-frame.ensures.read in
    exit _ _ _ _ c.from_residual-in_err-read_takes.ensures.1
    (within_length bytes c.if-bytes-gt-MOST_BYTES.false ∙ wrong_in_line header c.in_ok-required-2.ensures.taken (omega arith) c.in_err-read_takes.ensures.refused)

pub returns-in_err-read_units : goal.returns-in_err-read_units
returns-in_err-read_units c =
    let bytes = c.args.bytes.now in
    let none = nothing_passed bytes c.new-lines.result c.new-lines.ensures in
    let header = header_passed none c.in_ok-required.ensures.taken c.in_ok-frame.ensures.read in
    let takes = takes_passed header c.in_ok-required-2.ensures.taken c.in_ok-read_takes.ensures.read in
    exit _ _ _ _ c.from_residual-in_err-read_units.ensures.1
    (within_length bytes c.if-bytes-gt-MOST_BYTES.false ∙ takes.same ∙ c.in_err-read_units.ensures.refused)

pub returns : goal.returns
returns c =
    let none = nothing_passed c.args.bytes.now c.new-lines.result c.new-lines.ensures in
    let header = header_passed none c.in_ok-required.ensures.taken c.in_ok-frame.ensures.read in
    let takes = takes_passed header c.in_ok-required-2.ensures.taken c.in_ok-read_takes.ensures.read in
    let units = c.in_ok-read_units.ensures.read in
    (bytes_are takes units.0, record { header = c.in_ok-frame.ensures.read.1; takes = c.in_ok-read_takes.ensures.read.1; units = units.1 })
