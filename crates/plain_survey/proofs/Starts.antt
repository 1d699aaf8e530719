-- A start that is accepted is fair.
use Rattle.std.proofs.Common.{◌≡◌, ℕ, List, length, None, arith}
use Rattle.design.specs.Design.{Plan, refuses, accepts, SoundPlan}
use Rattle.design.specs.declared.row.Row.{Row}
use Rattle.weights.proofs.Scales.{weights_exact}
use Rattle.plain_survey.specs.Calls.{start_refusal}
use Rattle.plain_survey.specs.Laws.{FairStart}
use Rattle.plain_survey.proofs.Shares.{first_shares}
use Rattle.plain_survey.proofs.Averages.{fair_totals}

pub starts_fair : (list : List Row) (p : Plan) → SoundPlan list p → start_refusal p list ≡ None → FairStart p list
starts_fair list (refuses f) s e = absurd (let z : ◌≡◌ {A = ℕ} 0 1 = cc in (let y : ⊥ = omega arith in y))
starts_fair list (accepts num run) s e = record {
  shares = first_shares list num run s;
  totals = fair_totals list num run s (λ k l. weights_exact (length list) num run.denominator (λ j m. omega (arith, s.prescribed j m)) k l);
}
