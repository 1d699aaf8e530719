use Rattle.design.proofs.Calls.{one_numerator, prescribed_first}
use Rattle.design.proofs.design.shares_stand.Goals as goal

pub returns : goal.returns
returns c = record { one_numerator = one_numerator; prescribed_first = prescribed_first }
