-- Frames whose numbers are in range: their readings are lawful, and their takes are not refused.
use Rattle.std.proofs.Common.{◌≡◌, ℕ, suc, ◌≤◌, ℤ, pos, negsuc, ◌≤ℤ◌, false, true, ◌||◌, eqb, ltb, All, IsTrue, List, [], ◌∷◌, length, None, Option, is_some, ap, ◌∙◌, arith}
use Rattle.std.proofs.lemmas.Bool.{le-leb, le-ltb, lt-ltb}
use Rattle.std.proofs.lemmas.Bool.Decides.{nat_tests}
use Rattle.std.proofs.lemmas.Int.{ints}
use Rattle.std.proofs.lemmas.List.Elements.{All-get_or, All-map, All-weaker}
use Rattle.design.specs.Faults.{first_of, refused_if}
use Rattle.design.specs.Lists.{first}
use Rattle.design.proofs.Firsts.{none_first}
use Rattle.layers.specs.Stratified.{allot_refusal, take_of}
use Rattle.totals.specs.Kinds.{money_lawful, cell_lawful}
use Rattle.totals.specs.declared.table.Cell.{Cell}
use Rattle.frame_file.specs.declared.frame.Frame.{Frame}
use Rattle.frame_file.specs.declared.frame.FrameUnit.{FrameUnit}
use Rattle.frame_file.specs.Written.{Between, TakesFit, UnitFits, UnitsFit}
use Rattle.response.specs.Responses.{amounts_of, cells_of}

amount_lawful : (x : ℤ) → negsuc 999999 ≤ℤ x → x ≤ℤ pos 1000000 → money_lawful x ≡ true
amount_lawful (pos n) low high = le-leb n 1000000 (omega (arith, ints))
amount_lawful (negsuc n) low high = le-leb (suc n) 1000000 (omega (arith, ints))

pub amounts_lawful : (f : Frame) → UnitsFit f.units → All (λ x. IsTrue (money_lawful x)) (amounts_of f)
amounts_lawful f fit =
    All-map (λ x. IsTrue (money_lawful x)) (λ (u : FrameUnit). u.money) f.units
    (All-weaker UnitFits (λ u. IsTrue (money_lawful u.money)) (λ u h. amount_lawful u.money h.money.low h.money.high) f.units fit.each)

pub cells_lawful : (f : Frame) → UnitsFit f.units → All (λ (x : Cell). IsTrue (cell_lawful x.at)) (cells_of f)
cells_lawful f fit =
    All-map (λ (x : Cell). IsTrue (cell_lawful x.at)) (λ (u : FrameUnit). u.cell) f.units
    (All-weaker UnitFits (λ u. IsTrue (cell_lawful u.cell.at)) (λ u h. lt-ltb u.cell.at 6 (omega (arith, h.cell))) f.units fit.each)

-- ---- takes
not_zero : (n : ℕ) → 1 ≤ n → eqb n 0 ≡ false
not_zero n low = grind (arith, nat_tests)

some_takes : (n : ℕ) → 1 ≤ n → n ≤ 64 → (eqb n 0 || ltb 64 n) ≡ false
some_takes n low high = ap (λ b. b || ltb 64 n) (not_zero n low) ∙ le-ltb 64 n high

-- takes in range are not refused
pub takes_allotted : (takes : List ℕ) → TakesFit takes → allot_refusal takes ≡ None
takes_allotted takes fit =
    let none : first (length takes) (λ j. eqb (take_of takes j) 0) ≡ None =
    none_first (length takes) (λ j. eqb (take_of takes j) 0) (λ k l. not_zero (take_of takes k) (All-get_or (Between 1 1024) takes k 0 l fit.each).0) in
    ap (λ b. first_of (refused_if b 7 ∷ refused_if (is_some (first (length takes) (λ j. eqb (take_of takes j) 0))) 8 ∷ [])) (some_takes (length takes) fit.count.0 fit.count.1)
    ∙ ap (λ (o : Option ℕ). first_of (refused_if (is_some o) 8 ∷ [])) none
