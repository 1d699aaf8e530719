-- What stands of a layer: nothing until a begin is accepted, and from then on a run.
use Rattle.std.specs.Prelude.{Bool, true, false}
use Rattle.design.specs.Design.{Standing, no_run}

-- the run that stands, where one does
abbrev pub stands_if : Bool → Standing → Standing
stands_if true st = st
stands_if false st = no_run
