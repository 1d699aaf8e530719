use Rattle.std.proofs.Common.{false, rules}
use Rattle.parts.specs.Copying.{outcome_of}
use Rattle.parts.proofs.Copying.{written_by, flag_found}
use Rattle.series.proofs.moving.note_taken.Goals as goal

pub returns-clause-noted : goal.returns-clause-noted
returns-clause-noted g c over =
    written_by false c.args.flags.now c.write.new.self c.args.places.start c.args.places.end (outcome_of (g.D.Design.tree c.args.design.now))
    (λ k l. let h = c.write.ensures.written c.requires.within k false l in search (rules, flag_found))
    (λ k out. c.write.ensures.rest k false out)
