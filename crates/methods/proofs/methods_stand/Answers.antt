use Rattle.methods.proofs.Duelling.{pivotal_plays_out}
use Rattle.methods.proofs.PivotalCalls.{pivotal_sound}
use Rattle.methods.proofs.Poissons.{poisson_sound}
use Rattle.methods.proofs.Throws.{poisson_takes}
use Rattle.methods.proofs.Systematics.{systematic_takes, systematic_sound}
use Rattle.methods.proofs.methods_stand.Goals as goal

pub returns : goal.returns
returns c = record { systematic_takes = systematic_takes; pivotal_plays_out = pivotal_plays_out; poisson_takes = poisson_takes; systematic_sound = systematic_sound; pivotal_sound = pivotal_sound; poisson_sound = poisson_sound }
