-- What the fields of a stratification settle.
use Rattle.std.proofs.Common.{◌≡◌, true}
use mathlib.Core.HLevel.{is_prop→PathP}
use mathlib.Core.Logic.{∥∥₁_prop}
use Rattle.design.specs.declared.design.Design as Design
use Rattle.series.specs.Of.{IsIntact}
use Rattle.stratified.specs.declared.Stratified.{Stratified}

-- two stratifications with the same strata, takes and flag are the same, as what is kept of them has one proof
pub same_fields : {D : Type 0} {G : Design.Ghosts D} (x y : Stratified D G) → x.strata ≡ y.strata → x.takes ≡ y.takes → x.running ≡ y.running → x ≡ y
same_fields {G = G} x y a b c = λ i. record {
  strata = a i;
  takes = b i;
  running = c i;
  together = is_prop→PathP (λ j. ∥ (c j ≡ true → IsIntact G (a j)) ∥₁) (λ j. ∥∥₁_prop) x.together y.together i;
}
