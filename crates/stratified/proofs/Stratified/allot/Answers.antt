use Rattle.std.proofs.Common.{Ok, Err, Result, refl}
use Rattle.std.specs.Prelude.{OnErr}
use Rattle.stratified.proofs.Fields.{same_fields}
use Rattle.stratified.proofs.Stratified.allot.Goals as goal

on_err : {T E P : Type 0} (r : Result T E) → P → OnErr r P
on_err (Ok x) p = tt
on_err (Err e) p = p

pub returns-in_err-set-clause-refused : goal.returns-in_err-set-clause-refused
returns-in_err-set-clause-refused g c = on_err c.from_residual.result (same_fields _ c.args.self.now refl c.in_err-set.ensures.refused refl)
