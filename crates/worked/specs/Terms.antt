-- The terms in which the worked examples are written.
use Rattle.std.specs.Prelude.{◌≡◌, ℕ, zero, suc, cond, ℤ, List, [], ◌∷◌, ◌++◌, length}
use Rattle.outcomes.specs.Trees.{Tree, Sample, weight, inclusion, ways, subtree}
use Rattle.outcomes.specs.Listing.{Leads}
use Rattle.design.specs.Design.{Plan, refuses, accepts}
use Rattle.design.specs.Plans.{Plans}
use Rattle.design.specs.declared.row.Row.{Row}
use Rattle.methods.specs.Systematic.{systematic_plan}
use Rattle.methods.specs.Pivotal.{pivotal_plan}
use Rattle.methods.specs.Poisson.{poisson_plan}
use Rattle.plain_survey.specs.Calls.{first_run}
use Rattle.plain_survey.specs.Kinds.{money_kind}
use Rattle.plain_survey.specs.Reports.{report_of}

-- ---- lists
-- a row with this size, of a plain list; of a list with strata; of a list with clusters
abbrev pub sized : ℕ → Row
sized size = record { stratum = 0; cluster = 0; size = size }

abbrev pub in_stratum : ℕ → ℕ → Row
in_stratum stratum size = record { stratum = stratum; cluster = 0; size = size }

abbrev pub in_cluster : ℕ → ℕ → Row
in_cluster cluster size = record { stratum = 0; cluster = cluster; size = size }

-- f 0, f 1, .., f (n - 1)
abbrev pub each_of : {A : Type 0} → ℕ → (ℕ → A) → List A
each_of zero f = []
each_of (suc n) f = each_of n f ++ (f n ∷ [])

-- the units below n that a sample holds
abbrev pub units_in : ℕ → Sample → List ℕ
units_in zero u = []
units_in (suc n) u = units_in n u ++ cond (u n) (n ∷ []) []

-- ---- drawing
-- the ways of each of these throws, which are made from the top of the tree
abbrev pub ways_met : Tree Sample → List ℕ → List ℕ
ways_met t [] = []
ways_met t (d ∷ ds) = ways t ∷ ways_met (subtree t d) ds

-- the plan accepts, and these throws lead to an outcome with just these of its units
abbrev pub Takes : Plan → List ℕ → List ℕ → Type 0
Takes (refuses f) throws units = ⊥
Takes (accepts num run) throws units = (u : Sample) × Leads run.tree throws u × (units_in run.units u ≡ units)

-- the plan accepts, and the unit's inclusion weight is the total weight
abbrev pub AlwaysTakes : Plan → ℕ → Type 0
AlwaysTakes (refuses f) k = ⊥
AlwaysTakes (accepts num run) k = inclusion k run.tree ≡ weight run.tree

-- what holds of the plans of each of the three plain designs
pub record OfPlainDesigns (Q : Plans → Type 0) : Type 0 where
  pub systematic : Q systematic_plan
  pub pivotal : Q pivotal_plan
  pub poisson : Q poisson_plan

-- ---- reports
-- what a report of money leaves in the total after an accepted start, with the units of this sample taken
abbrev pub entries_reported : Plans → List Row → ℕ → List ℤ → Sample → List ℤ
entries_reported P list n amounts u = (report_of money_kind P (first_run (P list n) list n) u amounts).entries

-- with just these units taken, the report of these amounts is this one
abbrev pub Reports : Plans → List Row → ℕ → List ℤ → List ℕ → ℤ → Type 0
Reports P list n amounts units amount = (u : Sample) → units_in (length list) u ≡ units → entries_reported P list n amounts u ≡ amount ∷ []
