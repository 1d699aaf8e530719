use Rattle.std.proofs.Common.{◌≡◌, ◌≤◌, length, pos, replicate, slice_index}
use Rattle.outcomes.specs.Sums.{count}
use Rattle.outcomes.specs.Trees.{Sample}
use Rattle.plain_survey.specs.Reports.{row_of_reading, added}
use Rattle.survey.specs.Adding.{Finished, Addable}
use Rattle.survey.specs.Means.{kind_of}
use Rattle.survey.proofs.adding.add_taken.Given as goal

abbrev pub invariant-loop-k : goal.invariant-loop-k
invariant-loop-k g l =
    (l.taken ≤ l.k)
    × ((u : Sample) → Finished (g.D.Design.tree l.design) (length l.readings) u → Addable (kind_of g.T.Total) l.weights l.readings
    → (l.taken ≡ count l.k u)
    × (g.T.Total.entries l.total ≡ added l.k u (slice_index l.weights) (row_of_reading (kind_of g.T.Total) l.readings) (replicate g.T.Total.WIDTH (pos 0)))
    × (g.T.Total.additions l.total ≡ count l.k u))
