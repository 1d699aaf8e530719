-- The weights as they are worked out, unit by unit.
use Rattle.std.proofs.Common.{◌≡◌, ℕ, ◌+◌, ◌*◌, ◌/◌, ◌<◌, ◌≤◌, max, List, [], ◌∷◌, ◌++◌, length, slice_index, None, Ok, Err, sym, ap, ap₂, ◌∙◌, inl, inr, ◌⊎◌, arith}
use Rattle.std.proofs.Math.Nat.{div-div-eq-div-mul, mul-div_cancel, mul_assoc, mul_comm}
use Rattle.std.proofs.lemmas.Bool.{lt-ltb, le-ltb, cases_lt, cases_order}
use Rattle.std.proofs.lemmas.List.{get_or_append_left, get_or_push, get_or_past, length_push}
use Rattle.design.proofs.Firsts.{first_here, first_more, answers_at}
use Rattle.design.specs.Design.{Run, Standing, Shared}
use Rattle.design.specs.Faults.{Answers, numbered, refusal_at}
use Rattle.design.specs.Lists.{first}
use Rattle.design.specs.declared.fault.Fault.{Fault}
use Rattle.design.specs.Fractions.{Fraction}
use Rattle.design.specs.declared.row.Row.{Row}
use Rattle.weights.specs.Begun.{HaveWeights, JustBegun}
use Rattle.weights.specs.Scale.{NoneTooHeavy, design_weight, gcd, too_heavy, top, bottom, weight_refusal}
use Rattle.weights.proofs.Divisors.{bottom_times, gcd_positive, top_times}
use Rattle.weights.proofs.Prescribed.{prescribed, all_some}

-- the scale times a share turned over is the weight: lowest terms make no difference
turned_over : (scale n d : ℕ) → 0 < n → scale * d / n ≡ design_weight scale n d
turned_over scale n d some =
    let g = gcd n d in
    let above : 0 < g = gcd_positive n d some in
    let dividend : scale * bottom n d * g ≡ scale * d = mul_assoc scale (bottom n d) g ∙ ap (λ x. scale * x) (bottom_times n d) in
    let divisor : g * top n d ≡ n = mul_comm g (top n d) ∙ top_times n d in
    ap₂ (λ x y. x / y) (sym dividend) (sym divisor)
    ∙ sym (div-div-eq-div-mul (scale * bottom n d * g) g (top n d))
    ∙ ap (λ x. x / top n d) (mul-div_cancel (scale * bottom n d) above)

-- a weight as it is worked out of the scale s and the share p over q
pub weight_is : (scale n d s q p m : ℕ) → 0 < n → s ≡ scale → q ≡ d → p ≡ n → m ≡ max p 1 → s * q / m ≡ design_weight scale n d
weight_is scale n d s q p m some e f g h =
    let whole : m ≡ n = omega (arith, some, g, h) in
    ap₂ (λ x y. x / y) (ap₂ (λ x y. x * y) e f) whole ∙ turned_over scale n d some

-- the weight of a unit of a design that has just begun
pub weight_of_unit : (standing : Standing) (units : ℕ) (list : List Row) (num : ℕ → ℕ) (run : Run) (k : ℕ) (share : Fraction) (scale weight : ℕ)
    → JustBegun standing units list num run → k < units → Shared standing k (Ok share)
    → (0 < share.0 → weight ≡ design_weight scale share.0 share.1) → weight ≡ design_weight scale (num k) (run.denominator k)
weight_of_unit standing units list num run k share scale weight h l answer is =
    let p = prescribed standing units list num run k share h answer in
    let some : 0 < num k = all_some standing units list num run h k l in
    is (omega (arith, p.numerator, some)) ∙ ap₂ (design_weight scale) p.numerator p.denominator

-- ---- one weight more
pub none_heavy_more : (weights : List ℕ) (w : ℕ) → NoneTooHeavy weights → w ≤ 1000000000 → NoneTooHeavy (weights ++ w ∷ [])
none_heavy_more weights w before small k = by (cases_order k (length weights))
  where
    by : (k ≡ length weights) ⊎ ((k < length weights) ⊎ (length weights < k)) → slice_index (weights ++ w ∷ []) k ≤ 1000000000
    by (inl e) = omega (arith, get_or_push weights w 0 k (sym e))
    by (inr (inl l)) = omega (arith, get_or_append_left weights (w ∷ []) 0 k l, before k)
    by (inr (inr l)) = omega (arith, get_or_past (weights ++ w ∷ []) k 0 (omega (arith, length_push weights w)))

-- so many units have their weights, and none of them is too heavy
pub record WeighedSoFar (units : ℕ) (num den : ℕ → ℕ) (scale : ℕ) (weights : List ℕ) : Type 0 where
  pub none_heavy : first units (too_heavy scale num den) ≡ None
  pub have : HaveWeights units num den scale weights

pub weighed_more : (k : ℕ) (num den : ℕ → ℕ) (scale : ℕ) (weights : List ℕ) (w : ℕ) → WeighedSoFar k num den scale weights
    → w ≡ design_weight scale (num k) (den k) → w ≤ 1000000000 → WeighedSoFar (k + 1) num den scale (weights ++ w ∷ [])
weighed_more k num den scale weights w h is small = record {
  none_heavy = first_more k (too_heavy scale num den) h.none_heavy (le-ltb 1000000000 (design_weight scale (num k) (den k)) (omega (arith, is)));
  have = record {
    all_weighed = length_push weights w ∙ ap (λ i. i + 1) h.have.all_weighed;
    weights_are = λ j l. by j (cases_lt j k) l;
  };
}
  where
    by : (j : ℕ) → (j < k) ⊎ (k ≤ j) → j < k + 1 → slice_index (weights ++ w ∷ []) j ≡ design_weight scale (num j) (den j)
    by j (inl q) l = get_or_append_left weights (w ∷ []) 0 j (omega (arith, h.have.all_weighed)) ∙ h.have.weights_are j q
    by j (inr q) l =
        let same : k ≡ j = omega arith in
        get_or_push weights w 0 j (h.have.all_weighed ∙ same) ∙ is ∙ ap (λ i. design_weight scale (num i) (den i)) same

-- the first weight that is too heavy
pub heavy_here : {U : Type 0} (units k : ℕ) (num den : ℕ → ℕ) (scale : ℕ) (weights : List ℕ) (w : ℕ) (Q : U → Type 0) (f : Fault)
    → WeighedSoFar k num den scale weights → k < units → w ≡ design_weight scale (num k) (den k) → 1000000000 < w → numbered f ≡ refusal_at 23 k
    → Answers {A = U} (weight_refusal scale units num den) Q (Err f)
heavy_here units k num den scale weights w Q f h l is large e =
    answers_at 23 _ k Q f
    (first_here units k (too_heavy scale num den) h.none_heavy (lt-ltb 1000000000 (design_weight scale (num k) (den k)) (omega (arith, is))) l) e
