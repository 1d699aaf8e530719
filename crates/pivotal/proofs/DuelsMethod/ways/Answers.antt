use Rattle.std.proofs.Common.{rules, ◌≡◌, ℕ, Some, None, Option, sym, ap, ◌∙◌}
use Rattle.std.specs.Option.{MatchOption}
use borrow.Author.Tests.{tests}
use Rattle.outcomes.specs.Trees.{ways}
use Rattle.methods.specs.PivotalRuns.{duel_ways}
use Rattle.methods.proofs.PivotalCalls.{ways_at}
use Rattle.pivotal.specs.Duels.{tree_of, IntactIn, DueDuel}
use Rattle.pivotal.specs.declared.Duels.{Duels}
use Rattle.pivotal.specs.declared.duel.Duel.{Duel}
use Rattle.plain.specs.Of.{whole, held}
use Rattle.plain.specs.declared.holdings.Holdings.{Holdings}
use Rattle.pivotal.proofs.DuelsMethod.ways.Goals as goal

ways_due : (u : Holdings) (m : Duels) (due : Option Duel) (r : ℕ) → IntactIn u m → DueDuel u m due → MatchOption due (r ≡ 0) (λ duel. r ≡ duel_ways duel.total duel.a duel.b)
    → r ≡ ways (tree_of u m)
ways_due u m None r w due e = e ∙ sym due
ways_due u m (Some duel) r w due e =
    ways_at (whole u) (held u) m.called m.pending duel.pending duel.a duel.b r w due.0 (e ∙ ap (λ t. duel_ways t duel.a duel.b) due.1)

pub returns : goal.returns
returns c = ways_due c.args.units.now c.args.self.now c.duel.result c.map_or.result c.requires c.duel.ensures (search (rules, tests))
