use Rattle.parts.proofs.Runs.{parts_are_runs}
use Rattle.parts.proofs.Roads.{series_roads}
use Rattle.parts.proofs.Series.{series_fair, stages_fair}
use Rattle.parts.proofs.parts_stand.Goals as goal

pub returns : goal.returns
returns c = record { parts_are_runs = parts_are_runs; series_roads = series_roads; series_fair = series_fair; stages_fair = stages_fair }
