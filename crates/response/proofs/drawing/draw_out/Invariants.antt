use Rattle.std.proofs.Common.{◌≡◌, length}
use Rattle.survey.specs.Means.{plans, words}
use Rattle.response.proofs.Draws.{DrawnSoFar}
use Rattle.response.proofs.drawing.draw_out.Given as goal

abbrev pub invariant-loop-fault : goal.invariant-loop-fault
invariant-loop-fault g l =
    DrawnSoFar g.D.Design g.S.Source l.initial.survey l.survey × (plans g.D.Design l.survey ≡ plans g.D.Design l.initial.survey)

abbrev pub decreases-loop-fault : goal.decreases-loop-fault
decreases-loop-fault g l = length (words g.S.Source l.survey)
