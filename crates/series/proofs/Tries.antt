-- The answers of a design that is tried on a part.
use Rattle.std.proofs.Common.{◌≡◌, ℕ, ◌+◌, ◌-◌, ◌<◌, List, length, get_or, true, is_ok, Ok, Err, Result, sym, subst}
use Rattle.std.proofs.lemmas.Bool.{false≢true}
use Rattle.design.specs.Design.{Plan, Standing, Began}
use Rattle.design.specs.Faults.{Answers}
use Rattle.design.specs.declared.fault.Fault.{Fault}
use Rattle.design.specs.Fractions.{Fraction}
use Rattle.parts.specs.Bounds.{Rising}
use Rattle.parts.specs.Copying.{Fresh, overwritten}
use Rattle.parts.specs.Running.{Tables, all_parts, first_row_of, part_at, no_share, Ready}
use Rattle.design.specs.Plans.{Plans, share_of, SoundPlans}
use Rattle.parts.specs.Series.{plan_for, part_refusal}
use Rattle.parts.specs.Trying.{Tried, with_shares}
use Rattle.parts.proofs.Trying.{TriedFrom}
use Rattle.parts.proofs.Trying.{tried_part, trial_end}

pub begun_ok : {U : Type 0} (r : Result U Fault) (a : Plan) (st : Standing) → true ≡ is_ok r → Began a r st → (u : U) × Began a (Ok u) st
begun_ok (Ok u) a st h b = (u, b)
begun_ok (Err e) a st h b = absurd (false≢true (sym h))

-- the design was begun on part j, which goes from the row `first` up to `past`
pub tried_by : {U V : Type 0} (u : U) (x : V) (B : Plans) (law : SoundPlans B) (v : Tables) → Rising v.bounds (length v.rows)
    → (j first past : ℕ) (shares : List Fraction) (st : Standing) → j + 1 < length v.bounds → first ≡ first_row_of v j → past ≡ first_row_of v (j + 1)
    → Began {U = U} (plan_for B (part_at v j)) (Ok u) st
    → ((a : Plan) → Fresh a st (past - first) → (k : ℕ) → get_or shares k no_share ≡ overwritten (λ i. get_or v.shares i no_share) first past (share_of a) k)
    → Tried {U = V} (plan_for B (part_at v j)) v j shares st (Ok x)
tried_by u x B law v rise j first past shares st place f p b h =
    tried_part B v rise u x law j shares st place b
    (subst (λ q. (a : Plan) → Fresh a st (q - first_row_of v j) → (k : ℕ) → get_or shares k no_share ≡ overwritten (λ i. get_or v.shares i no_share) (first_row_of v j) q (share_of a) k) p
    (subst (λ q. (a : Plan) → Fresh a st (past - q) → (k : ℕ) → get_or shares k no_share ≡ overwritten (λ i. get_or v.shares i no_share) q past (share_of a) k) f h))

-- what is tried does not rest on the shares that are there
pub tried_as : {U : Type 0} (B B' : Plans) (v w : Tables) (j : ℕ) (shares shares' : List Fraction) (st : Standing) (r : Result U Fault) → B' ≡ B → w ≡ with_shares v shares
    → Tried (plan_for B' (part_at w j)) w j shares' st r → Tried (plan_for B (part_at v j)) (with_shares v shares) j shares' st r
tried_as B B' v w j shares shares' st r e is h =
    subst (λ (x : Tables). Tried (plan_for B (part_at x j)) x j shares' st r) is (subst (λ (C : Plans). Tried (plan_for C (part_at w j)) w j shares' st r) e h)

-- all parts were tried, which has left the plans, and no more than the shares changed
pub ready : {U : Type 0} (B B' : Plans) (v w : Tables) (st : Standing) (r : Result U Fault) → Rising v.bounds (length v.rows) → B' ≡ B → w ≡ with_shares v w.shares
    → TriedFrom {U = U} B v w.shares 0 st r → Answers {A = U} (part_refusal B (all_parts v)) (λ _. Ready B' w st) r
ready {U} B B' v w st r rise e is T =
    subst (λ (C : Plans). Answers {A = U} (part_refusal B (all_parts v)) (λ _. Ready C w st) r) (sym e)
    (subst (λ (x : Tables). Answers {A = U} (part_refusal B (all_parts v)) (λ _. Ready B x st) r) (sym is) (trial_end B v rise w.shares st r T))
