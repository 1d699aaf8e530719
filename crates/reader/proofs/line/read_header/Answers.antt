use Rattle.std.proofs.Common.{refl, arith}
use Rattle.reader.proofs.Columns.{begun, after_number, wrong_there, surplus_there}
use Rattle.reader.proofs.Exits.{exit}
use Rattle.reader.proofs.line.read_header.Goals as goal

pub returns-in_err-m-clause-refused : goal.returns-in_err-m-clause-refused
returns-in_err-m-clause-refused c =
    let n = after_number (begun c.new-fields.ensures.left c.new-fields.ensures.place) c.in_ok-n.ensures.taken refl refl in
    exit _ _ _ _ c.from_residual-in_err-m.ensures.1 (wrong_there n c.in_err-m.ensures.wrong refl (λ _. omega arith))

pub returns-in_err-seed-clause-refused : goal.returns-in_err-seed-clause-refused
returns-in_err-seed-clause-refused c =
    let n = after_number (begun c.new-fields.ensures.left c.new-fields.ensures.place) c.in_ok-n.ensures.taken refl refl in
    let m = after_number n c.in_ok-m.ensures.taken refl refl in
    exit _ _ _ _ c.from_residual-in_err-seed.ensures.1 (wrong_there m c.in_err-seed.ensures.wrong refl (λ _. omega arith))

pub returns-in_err-end-clause-refused : goal.returns-in_err-end-clause-refused
returns-in_err-end-clause-refused c =
    let n = after_number (begun c.new-fields.ensures.left c.new-fields.ensures.place) c.in_ok-n.ensures.taken refl refl in
    let m = after_number n c.in_ok-m.ensures.taken refl refl in
    let seed = after_number m c.in_ok-seed.ensures.taken refl refl in
    exit _ _ _ _ c.from_residual-in_err-end.ensures.1 (surplus_there seed c.in_err-end.ensures.surplus refl)
