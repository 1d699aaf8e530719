use Rattle.frame_laws.proofs.Numbers.{numbers_as_written}
use Rattle.frame_laws.proofs.FirstSpots.{refused_at_first, else_nothing_wrong}
use Rattle.frame_laws.proofs.WrittenAccepted.{written_is_accepted}
use Rattle.frame_laws.proofs.WrittenOnce.{written_once}
use Rattle.frame_laws.proofs.frame_files_stand.Goals as goal

pub returns : goal.returns
returns c = record {
  numbers_as_written = numbers_as_written;
  refused_at_first = refused_at_first;
  else_nothing_wrong = else_nothing_wrong;
  written_is_accepted = written_is_accepted;
  written_once = written_once;
}
