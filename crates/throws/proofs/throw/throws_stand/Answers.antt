use Rattle.throws.proofs.Throwing.{dry_exactly, each_as_often, passed_over}
use Rattle.throws.proofs.throw.throws_stand.Goals as goal

pub returns : goal.returns
returns c = record { dry_exactly = dry_exactly; each_as_often = each_as_often; passed_over = passed_over }
