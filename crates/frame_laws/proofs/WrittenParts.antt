-- What is written of a frame in range parts again into its lines, and each line into its fields.
use Rattle.std.proofs.Common.{◌≡◌, ℕ, suc, ◌+◌, ◌%◌, ◌^◌, ◌<◌, ◌≤◌, ◌≢◌, ℤ, pos, negsuc, ◌≤ℤ◌, List, [], ◌∷◌, ◌++◌, decimal, All, ap, ◌∙◌, append_assoc, mod-lt, arith}
use lib.Signed.{mag}
use Rattle.std.specs.Fmt.{signed_decimal}
use Rattle.std.specs.List.{AllByRecursion}
use Rattle.std.proofs.lemmas.Fmt.{decimal_by_steps}
use Rattle.std.proofs.lemmas.Int.{ints}
use Rattle.std.proofs.lemmas.List.Elements.{All-nil, All-cons, All-push, All-append, All-weaker, recursion_from_All}
use Rattle.frame_file.specs.declared.frame.Header.{Header}
use Rattle.frame_file.specs.declared.frame.FrameUnit.{FrameUnit}
use Rattle.frame_file.specs.Pieces.{pieces, fields_of, whole_line, lines_of}
use Rattle.frame_file.specs.Written.{commas, line, header_fields, takes_fields, unit_fields, HeaderFits, TakesFit, UnitFits, Between}
use Rattle.frame_laws.proofs.Parted.{Without, first_piece, one_piece}
use Rattle.frame_laws.proofs.LineSteps.{first_line}

-- ---- numbers
-- a byte of a field: neither a comma nor an end byte
abbrev InField : ℕ → Type 0
InField b = (b ≢ 44) × (b ≢ 10)

digit_in_field : (d : ℕ) → d < 10 → InField (48 + d)
digit_in_field d l = (λ e. omega arith, λ e. omega arith)

decimal_in_field : (n : ℕ) → n < 2 ^ 64 → All InField (decimal n)
decimal_in_field =
    decimal_by_steps (λ n ds. All InField ds) (λ n l. All-cons InField (48 + n) [] (digit_in_field n l) (All-nil InField))
    (λ n ds l h. All-push InField ds (48 + n % 10) h (digit_in_field (n % 10) (mod-lt n (omega arith))))

pub amount_small : (z : ℤ) → negsuc 999999 ≤ℤ z → z ≤ℤ pos 1000000 → mag z ≤ 1000000
amount_small (pos n) low high = omega (arith, ints)
amount_small (negsuc n) low high = omega (arith, ints)

amount_in_field : (z : ℤ) → negsuc 999999 ≤ℤ z → z ≤ℤ pos 1000000 → All InField (signed_decimal z)
amount_in_field (pos n) low high = decimal_in_field n (omega (arith, amount_small (pos n) low high))
amount_in_field (negsuc n) low high =
    All-cons InField 45 (decimal (suc n)) (λ e. omega arith, λ e. omega arith) (decimal_in_field (suc n) (omega (arith, amount_small (negsuc n) low high)))

-- ---- lines
-- fields that are those of their line, in which no end byte stands
pub record Parts (fs : List (List ℕ)) : Type 0 where
  pub fields : fields_of (commas fs) ≡ fs
  pub no_end : Without 10 (commas fs)

pub lines_of_written : (fs : List (List ℕ)) (rest : List ℕ) → Parts fs → lines_of (line fs ++ rest) ≡ whole_line (commas fs) ∷ lines_of rest
lines_of_written fs rest p =
    first_line (line fs ++ rest) (commas fs) rest (ap (pieces 10) (append_assoc (commas fs) (10 ∷ []) rest) ∙ first_piece 10 (commas fs) rest p.no_end)

no_comma : (f : List ℕ) → All InField f → Without 44 f
no_comma = All-weaker InField (λ b. b ≢ 44) (λ b h. h.0)

no_end : (f : List ℕ) → All InField f → Without 10 f
no_end = All-weaker InField (λ b. b ≢ 10) (λ b h. h.1)

parts : (f : List ℕ) (fs : List (List ℕ)) → AllByRecursion (All InField) (f ∷ fs) → Parts (f ∷ fs)
parts f [] h = record { fields = one_piece 44 f (no_comma f h.0); no_end = no_end f h.0 }
parts f (g ∷ fs) h =
    let rest = parts g fs h.1 in
    record {
      fields = first_piece 44 f (commas (g ∷ fs)) (no_comma f h.0) ∙ ap (λ gs. f ∷ gs) rest.fields;
      no_end = All-append (λ b. b ≢ 10) f (44 ∷ commas (g ∷ fs)) (no_end f h.0) (All-cons (λ b. b ≢ 10) 44 (commas (g ∷ fs)) (λ e. omega arith) rest.no_end);
    }

-- ---- the lines of a frame
pub header_parts : (h : Header) → HeaderFits h → Parts (header_fields h)
header_parts h w = parts _ _ (
  decimal_in_field h.n (omega (arith, w.n)),
  (
    decimal_in_field h.m (omega (arith, w.m)),
    (decimal_in_field h.seed (omega (arith, w.seed)), tt),
  ),
)

pub takes_parts : (takes : List ℕ) → TakesFit takes → Parts (takes_fields takes)
takes_parts [] w = absurd (omega (arith, w.count))
takes_parts (t ∷ ts) w = parts _ _ (each (t ∷ ts) (recursion_from_All (Between 1 1024) (t ∷ ts) w.each))
  where
    each : (takes : List ℕ) → AllByRecursion (Between 1 1024) takes → AllByRecursion (All InField) (takes_fields takes)
    each [] w = tt
    each (t ∷ ts) w = (decimal_in_field t (omega (arith, w.0)), each ts w.1)

pub unit_parts : (u : FrameUnit) → UnitFits u → Parts (unit_fields u)
unit_parts u w = parts _ _ (
  decimal_in_field u.row.stratum (omega (arith, w.stratum)),
  (
    decimal_in_field u.row.cluster (omega (arith, w.cluster)),
    (
      decimal_in_field u.row.size (omega (arith, w.size)),
      (
        amount_in_field u.money w.money.low w.money.high,
        (decimal_in_field u.cell.at (omega (arith, w.cell)), tt),
      ),
    ),
  ),
)
