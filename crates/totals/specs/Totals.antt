-- Totals of any kind, by what their trait says of them.
use Rattle.std.specs.Prelude.{◌≡◌, pos, replicate}
use Rattle.totals.specs.declared.total.Total as Total

-- a new total: all its entries are 0, and nothing was added
abbrev pub IsNew : {T R : Type 0} → Total.Ghosts T R → T → Type 0
IsNew kind total = (kind.entries total ≡ replicate kind.WIDTH (pos 0)) × (kind.additions total ≡ 0)
