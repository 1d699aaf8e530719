-- What is written of a frame in range is written of no other.
use Rattle.std.proofs.Common.{◌≡◌, ℕ, List, [], ◌∷◌, ◌++◌, map, decimal, refl, sym, ap, ◌∙◌, append_assoc, arith}
use Rattle.std.specs.List.{AllByRecursion}
use Rattle.std.proofs.lemmas.Fmt.{decimal_injective, signed_decimal_injective}
use Rattle.std.proofs.lemmas.List.Elements.{recursion_from_All}
use Rattle.frame_file.specs.declared.frame.Header.{Header}
use Rattle.frame_file.specs.declared.frame.FrameUnit.{FrameUnit}
use Rattle.frame_file.specs.declared.frame.Frame.{Frame}
use Rattle.frame_file.specs.Pieces.{fields_of, lines_of}
use Rattle.frame_file.specs.Written.{line, header_fields, takes_fields, unit_fields, units_written, written, Between, HeaderFits, UnitFits, Fits}
use Rattle.frame_laws.specs.Laws.{WrittenOnce}
use Rattle.frame_laws.proofs.WrittenParts.{amount_small, Parts, lines_of_written, header_parts, takes_parts, unit_parts}

-- ---- the fields of a file are those that were written
-- the fields of each line of a file
abbrev table : List ℕ → List (List (List ℕ))
table bytes = map (λ l. fields_of l.text) (lines_of bytes)

table_of_line : (fs : List (List ℕ)) (rest : List ℕ) → Parts fs → table (line fs ++ rest) ≡ fs ∷ table rest
table_of_line fs rest p = ap (map (λ l. fields_of l.text)) (lines_of_written fs rest p) ∙ ap (λ gs. gs ∷ table rest) p.fields

table_of_units : (units : List FrameUnit) → AllByRecursion UnitFits units → table (units_written units) ≡ map unit_fields units
table_of_units [] w = refl
table_of_units (u ∷ us) w = table_of_line (unit_fields u) (units_written us) (unit_parts u w.0) ∙ ap (λ t. unit_fields u ∷ t) (table_of_units us w.1)

table_of_frame : (f : Frame) → Fits f → table (written f) ≡ header_fields f.header ∷ takes_fields f.takes ∷ map unit_fields f.units
table_of_frame f w =
    let takes_on = line (takes_fields f.takes) ++ units_written f.units in
    ap table (append_assoc (line (header_fields f.header)) (line (takes_fields f.takes)) (units_written f.units))
    ∙ table_of_line (header_fields f.header) takes_on (header_parts f.header w.header)
    ∙ ap (λ t. header_fields f.header ∷ t) (table_of_line (takes_fields f.takes) (units_written f.units) (takes_parts f.takes w.takes)
    ∙ ap (λ t. takes_fields f.takes ∷ t) (table_of_units f.units (recursion_from_All UnitFits f.units w.units.each)))

-- ---- equal fields are of equal values
same_header : (h k : Header) → HeaderFits h → HeaderFits k → header_fields h ≡ header_fields k → h ≡ k
same_header h k v w e =
    let n : h.n ≡ k.n = decimal_injective _ _ (omega (arith, v.n)) (omega (arith, w.n)) (cc) in
    let m : h.m ≡ k.m = decimal_injective _ _ (omega (arith, v.m)) (omega (arith, w.m)) (cc) in
    let seed : h.seed ≡ k.seed = decimal_injective _ _ (omega (arith, v.seed)) (omega (arith, w.seed)) (cc) in
    λ i. record { n = n i; m = m i; seed = seed i }

same_unit : (u v : FrameUnit) → UnitFits u → UnitFits v → unit_fields u ≡ unit_fields v → u ≡ v
same_unit u v x y e =
    let stratum : u.row.stratum ≡ v.row.stratum = decimal_injective _ _ (omega (arith, x.stratum)) (omega (arith, y.stratum)) (cc) in
    let cluster : u.row.cluster ≡ v.row.cluster = decimal_injective _ _ (omega (arith, x.cluster)) (omega (arith, y.cluster)) (cc) in
    let size : u.row.size ≡ v.row.size = decimal_injective _ _ (omega (arith, x.size)) (omega (arith, y.size)) (cc) in
    let money : u.money ≡ v.money =
    signed_decimal_injective _ _ (omega (arith, amount_small u.money x.money.low x.money.high)) (omega (arith, amount_small v.money y.money.low y.money.high)) (cc) in
    let at : u.cell.at ≡ v.cell.at = decimal_injective _ _ (omega (arith, x.cell)) (omega (arith, y.cell)) (cc) in
    λ i. record { row = record { stratum = stratum i; cluster = cluster i; size = size i }; money = money i; cell = record { at = at i } }

same_items : {X Y : Type 0} (P : X → Type 0) (f : X → Y) → ((x y : X) → P x → P y → f x ≡ f y → x ≡ y)
    → (xs ys : List X) → AllByRecursion P xs → AllByRecursion P ys → map f xs ≡ map f ys → xs ≡ ys
same_items P f same [] [] v w e = refl
same_items P f same [] (y ∷ ys) v w e = cc
same_items P f same (x ∷ xs) [] v w e = cc
same_items P f same (x ∷ xs) (y ∷ ys) v w e =
    let head = same x y v.0 w.0 (cc) in
    let tail = same_items P f same xs ys v.1 w.1 (cc) in
    λ i. head i ∷ tail i

pub written_once : WrittenOnce
written_once f g v w e =
    let same = sym (table_of_frame f v) ∙ ap table e ∙ table_of_frame g w in
    let header = same_header f.header g.header v.header w.header (cc) in
    let takes : f.takes ≡ g.takes =
    same_items (Between 1 1024) decimal (λ t u x y. decimal_injective t u (omega (arith, x.1)) (omega (arith, y.1))) f.takes g.takes
    (recursion_from_All (Between 1 1024) f.takes v.takes.each) (recursion_from_All (Between 1 1024) g.takes w.takes.each) (cc) in
    let units : f.units ≡ g.units =
    same_items UnitFits unit_fields same_unit f.units g.units (recursion_from_All UnitFits f.units v.units.each) (recursion_from_All UnitFits g.units w.units.each) (cc) in
    λ i. record { header = header i; takes = takes i; units = units i }
