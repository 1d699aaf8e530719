use Rattle.std.proofs.Common.{◌≡◌}
use Rattle.std.proofs.Math.ListN.{take}
use Rattle.survey.specs.Conducting.{EachObeys, unanswered}
use Rattle.survey.specs.Means.{plans}
use Rattle.survey.proofs.survey.Survey.conduct_into.Given as goal

abbrev pub invariant-loop-i : goal.invariant-loop-i
invariant-loop-i g l =
    (plans g.D.Design l.self ≡ plans g.D.Design l.fn.self) × (unanswered l.calls l.answers ≡ unanswered l.calls l.fn.answers)
    × EachObeys g.D.Design g.S.Source g.L.Ledger (take l.i l.placed) (take l.i l.answers) l.fn.self l.fn.ledger l.self l.ledger
