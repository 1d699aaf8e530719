use Rattle.std.proofs.Common.{rules}
use Rattle.parts.specs.Running.{no_share}
use Rattle.design.specs.Plans.{share_of}
use Rattle.parts.proofs.Copying.{written_by, share_found}
use Rattle.series.proofs.trying.note_shares.Goals as goal

pub returns-clause-noted : goal.returns-clause-noted
returns-clause-noted g c a fresh =
    written_by no_share c.args.shares.now c.write.new.self c.args.rows.start c.args.rows.end (share_of a)
    (λ k l. let h = c.write.ensures.written c.requires.within k no_share l in search (rules, share_found))
    (λ k out. c.write.ensures.rest k no_share out)
