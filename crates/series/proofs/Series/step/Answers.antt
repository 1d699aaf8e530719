use Rattle.std.proofs.Common.{◌≡◌, true, cond, sym, ap, ◌∙◌, subst, arith}
use Rattle.design.specs.Design.{Stepped, ways_of}
use Rattle.parts.specs.Running.{Underway, has_present, standing_of}
use Rattle.parts.proofs.Tables.{gone_on}
use Rattle.design.specs.Plans.{Plans}
use Rattle.parts.proofs.Stepping.{ways_are, stepped_down}
use Rattle.series.specs.Of.{IsIntact, plans, standing, tables_of}
use Rattle.series.proofs.Moves.{stepped_by, same_gone}
use Rattle.series.proofs.Series.step.Given as given
use Rattle.series.proofs.Series.step.Goals as goal

both : (g : given.Over) (c : goal.After-settle g) → IsIntact g.D.Design c.args.self.now
    → Stepped (standing g.D.Design c.args.self.now) c.args.d c.settle.result (standing g.D.Design c.settle.new.self) × IsIntact g.D.Design c.settle.new.self
both g c h =
    let s = c.args.self.now in
    let x = c.settle.new.self in
    let v = tables_of s in
    let B = plans g.D.Design s in
    let C = g.D.Design.plan c.step.new.self in
    let st = g.D.Design.tree s.below in
    let to = g.D.Design.tree c.step.new.self in
    let has : has_present v ≡ true = sym c.has_part.ensures ∙ c.if-not-has_part.false in
    let gone = c.in_ok-step.ensures.stepped in
    let down = stepped_down B v st to c.args.d h.underway has gone.0 gone.1 in
    let ways : ways_of (standing g.D.Design s) ≡ ways_of st = ways_are B v st h ∙ ap (λ b. cond b (ways_of st) 0) has in
    stepped_by c.settle.result (IsIntact g.D.Design x) (standing g.D.Design x) (standing_of C (gone_on v) to) (standing g.D.Design s) c.args.d
    (c.settle.ensures.settled (subst (λ (P : Plans). Underway P (gone_on v) to) (sym c.step.ensures.settings) down.0))
    (ap (λ (P : Plans). standing_of P (gone_on v) to) c.step.ensures.settings ∙ down.1) (omega (arith, ways, gone.0))

pub returns : goal.returns
returns g c = record {
  stepped = λ h. (both g c h).0;
  intact = λ h. (both g c h).1;
  same = same_gone (tables_of c.args.self.now) (tables_of c.settle.new.self) c.settle.ensures.same;
  settings = c.settle.ensures.settings ∙ c.step.ensures.settings;
}
