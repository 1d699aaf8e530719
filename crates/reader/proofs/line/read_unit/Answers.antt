use Rattle.std.proofs.Common.{refl, arith}
use Rattle.reader.proofs.Columns.{begun, after_money, after_number, wrong_there, surplus_there}
use Rattle.reader.proofs.Exits.{exit}
use Rattle.reader.proofs.line.read_unit.Goals as goal

pub returns-in_err-cluster-clause-refused : goal.returns-in_err-cluster-clause-refused
returns-in_err-cluster-clause-refused c =
    let stratum = after_number (begun c.new-fields.ensures.left c.new-fields.ensures.place) c.in_ok-stratum.ensures.taken refl refl in
    exit _ _ _ _ c.from_residual-in_err-cluster.ensures.1 (wrong_there stratum c.in_err-cluster.ensures.wrong refl (λ _. omega arith))

pub returns-in_err-size-clause-refused : goal.returns-in_err-size-clause-refused
returns-in_err-size-clause-refused c =
    let stratum = after_number (begun c.new-fields.ensures.left c.new-fields.ensures.place) c.in_ok-stratum.ensures.taken refl refl in
    let cluster = after_number stratum c.in_ok-cluster.ensures.taken refl refl in
    exit _ _ _ _ c.from_residual-in_err-size.ensures.1 (wrong_there cluster c.in_err-size.ensures.wrong refl (λ _. omega arith))

pub returns-in_err-money-clause-refused : goal.returns-in_err-money-clause-refused
returns-in_err-money-clause-refused c =
    let stratum = after_number (begun c.new-fields.ensures.left c.new-fields.ensures.place) c.in_ok-stratum.ensures.taken refl refl in
    let cluster = after_number stratum c.in_ok-cluster.ensures.taken refl refl in
    let size = after_number cluster c.in_ok-size.ensures.taken refl refl in
    exit _ _ _ _ c.from_residual-in_err-money.ensures.1 (wrong_there size c.in_err-money.ensures.wrong refl (λ _. omega arith))

pub returns-in_err-at-clause-refused : goal.returns-in_err-at-clause-refused
returns-in_err-at-clause-refused c =
    let stratum = after_number (begun c.new-fields.ensures.left c.new-fields.ensures.place) c.in_ok-stratum.ensures.taken refl refl in
    let cluster = after_number stratum c.in_ok-cluster.ensures.taken refl refl in
    let size = after_number cluster c.in_ok-size.ensures.taken refl refl in
    let money = after_money size c.in_ok-money.ensures.taken refl in
    exit _ _ _ _ c.from_residual-in_err-at.ensures.1 (wrong_there money c.in_err-at.ensures.wrong refl (λ _. omega arith))

pub returns-in_err-end-clause-refused : goal.returns-in_err-end-clause-refused
returns-in_err-end-clause-refused c =
    let stratum = after_number (begun c.new-fields.ensures.left c.new-fields.ensures.place) c.in_ok-stratum.ensures.taken refl refl in
    let cluster = after_number stratum c.in_ok-cluster.ensures.taken refl refl in
    let size = after_number cluster c.in_ok-size.ensures.taken refl refl in
    let money = after_money size c.in_ok-money.ensures.taken refl in
    let at = after_number money c.in_ok-at.ensures.taken refl refl in
    exit _ _ _ _ c.from_residual-in_err-end.ensures.1 (surplus_there at c.in_err-end.ensures.surplus refl)
