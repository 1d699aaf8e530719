-- What is written of a frame in range is never too long.
use Rattle.std.proofs.Common.{◌≡◌, ℕ, min, ◌+◌, ◌*◌, ◌^◌, ◌<◌, ◌≤◌, ℤ, pos, negsuc, ◌≤ℤ◌, List, [], ◌∷◌, ◌++◌, length, decimal, length-append, arith}
use Rattle.std.specs.Fmt.{signed_decimal}
use Rattle.std.specs.List.{AllByRecursion}
use Rattle.std.proofs.lemmas.Fmt.{length-decimal-le, length_signed_le}
use Rattle.std.proofs.lemmas.List.Elements.{recursion_from_All}
use Rattle.frame_file.specs.declared.frame.Header.{Header}
use Rattle.frame_file.specs.declared.frame.FrameUnit.{FrameUnit}
use Rattle.frame_file.specs.declared.frame.Frame.{Frame}
use Rattle.frame_file.specs.Written.{commas, line, header_fields, takes_fields, unit_fields, units_written, written, Between, HeaderFits, TakesFit, UnitFits, Fits}
use Rattle.frame_laws.proofs.WrittenParts.{amount_small}

-- ---- lines
-- the bytes of a line: each field with what stands behind it
abbrev width : List (List ℕ) → ℕ
width [] = 0
width (f ∷ fs) = length f + 1 + width fs

length_line : (f : List ℕ) (fs : List (List ℕ)) → length (line (f ∷ fs)) ≡ width (f ∷ fs)
length_line f fs = omega (arith, length-append (commas (f ∷ fs)) (10 ∷ []), joined f fs)
  where
    joined : (f : List ℕ) (fs : List (List ℕ)) → length (commas (f ∷ fs)) + 1 ≡ width (f ∷ fs)
    joined f [] = omega arith
    joined f (g ∷ fs) = omega (arith, length-append f (44 ∷ commas (g ∷ fs)), joined g fs)

number_short : (k n : ℕ) → 0 < k → n < min (10 ^ k) (2 ^ 64) → length (decimal n) ≤ k
number_short k n some small = length-decimal-le k n some (omega arith) (omega arith)

amount_short : (z : ℤ) → negsuc 999999 ≤ℤ z → z ≤ℤ pos 1000000 → length (signed_decimal z) ≤ 8
amount_short z low high = length_signed_le 7 z (omega (arith, amount_small z low high)) (omega (arith, amount_small z low high))

header_short : (h : Header) → HeaderFits h → length (line (header_fields h)) ≤ 21
header_short h w =
    omega (
      arith,
      length_line (decimal h.n) (decimal h.m ∷ decimal h.seed ∷ []),
      number_short 4 h.n (omega arith) (omega (arith, w.n)),
      number_short 4 h.m (omega arith) (omega (arith, w.m)),
      number_short 10 h.seed (omega arith) (omega (arith, w.seed)),
    )

unit_short : (u : FrameUnit) → UnitFits u → length (line (unit_fields u)) ≤ 29
unit_short u w =
    omega (
      arith,
      length_line (decimal u.row.stratum) (decimal u.row.cluster ∷ decimal u.row.size ∷ signed_decimal u.money ∷ decimal u.cell.at ∷ []),
      number_short 5 u.row.stratum (omega arith) (omega (arith, w.stratum)),
      number_short 5 u.row.cluster (omega arith) (omega (arith, w.cluster)),
      number_short 5 u.row.size (omega arith) (omega (arith, w.size)),
      amount_short u.money w.money.low w.money.high,
      number_short 1 u.cell.at (omega arith) (omega (arith, w.cell)),
    )

takes_short : (takes : List ℕ) → TakesFit takes → length (line (takes_fields takes)) ≤ 320
takes_short [] w = absurd (omega (arith, w.count))
takes_short (t ∷ ts) w = omega (arith, length_line (decimal t) (takes_fields ts), each (t ∷ ts) (recursion_from_All (Between 1 1024) (t ∷ ts) w.each), w.count)
  where
    each : (takes : List ℕ) → AllByRecursion (Between 1 1024) takes → width (takes_fields takes) ≤ 5 * length takes
    each [] w = omega arith
    each (t ∷ ts) w = omega (arith, number_short 4 t (omega arith) (omega (arith, w.0)), each ts w.1)

-- ---- the frame
units_short : (units : List FrameUnit) → AllByRecursion UnitFits units → length (units_written units) ≤ 29 * length units
units_short [] w = omega arith
units_short (u ∷ us) w = omega (arith, length-append (line (unit_fields u)) (units_written us), unit_short u w.0, units_short us w.1)

pub written_short : (f : Frame) → Fits f → length (written f) ≤ 32768
written_short f w =
    omega (
      arith,
      length-append (line (header_fields f.header) ++ line (takes_fields f.takes)) (units_written f.units),
      length-append (line (header_fields f.header)) (line (takes_fields f.takes)),
      header_short f.header w.header,
      takes_short f.takes w.takes,
      units_short f.units (recursion_from_All UnitFits f.units w.units.each),
      w.units.count,
    )
