use Rattle.std.proofs.Common.{◌≡◌, Bool, false, ◌||◌, eqb, ltb, [], ◌∷◌, length, sym, ◌∙◌, ap₂}
use Rattle.std.proofs.lemmas.Bool.{le-ltb}
use Rattle.design.specs.Faults.{refusal, first_of, refused_if}
use Rattle.layers.specs.Stratified.{allot_refusal}
use Rattle.layers.proofs.Standings.{answers_as, answers_ok}
use Rattle.stratified.proofs.ZeroTakes.{zero_found}
use Rattle.stratified.proofs.takes.check_takes.Goals as goal

pub returns-then-contains : goal.returns-then-contains
returns-then-contains c =
    let takes = c.args.takes.now in
    let within : (eqb (length takes) 0 || ltb 64 (length takes)) ≡ false =
    ap₂ (λ (x y : Bool). x || y) (sym c.is_empty.ensures ∙ c.if-is_empty.false) (le-ltb 64 (length takes) c.if-takes-gt-MOST_TAKES.false) in
    answers_as (allot_refusal takes) (refusal 8) _ c.of-then-contains.result
    (ap₂ (λ (b d : Bool). first_of (refused_if b 7 ∷ refused_if d 8 ∷ [])) within (zero_found takes c.contains.result c.contains.ensures.cases ∙ c.if-contains.true)) c.of-then-contains.ensures

pub returns : goal.returns
returns c =
    let takes = c.args.takes.now in
    let within : (eqb (length takes) 0 || ltb 64 (length takes)) ≡ false =
    ap₂ (λ (x y : Bool). x || y) (sym c.is_empty.ensures ∙ c.if-is_empty.false) (le-ltb 64 (length takes) c.if-takes-gt-MOST_TAKES.false) in
    answers_ok (allot_refusal takes) _ tt (ap₂ (λ (b d : Bool). first_of (refused_if b 7 ∷ refused_if d 8 ∷ [])) within (zero_found takes c.contains.result c.contains.ensures.cases ∙ c.if-contains.false)) tt
