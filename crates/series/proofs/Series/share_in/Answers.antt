use Rattle.std.proofs.Common.{T, sym, subst}
use Rattle.parts.proofs.Seats.{seat_row}
use Rattle.series.specs.Of.{tables_of}
use Rattle.series.proofs.Tabled.{rising}
use Rattle.series.proofs.Series.share_in.Goals as goal

pub share_seated-requires-clause-seated : goal.share_seated-requires-clause-seated
share_seated-requires-clause-seated g c = c.lies_in.ensures.0 (subst T (sym c.if-not-lies_in.false) tt)

pub share_seated-requires-clause-listed : goal.share_seated-requires-clause-listed
share_seated-requires-clause-listed g c =
    let s = c.args.self.now in
    seat_row (tables_of s) (rising s.table) c.args.k c.args.j (c.lies_in.ensures.0 (subst T (sym c.if-not-lies_in.false) tt))
