-- The refusal of a file, line by line, and the bytes of its lines.
use Rattle.std.proofs.Common.{◌≡◌, ℕ, ◌+◌, ◌<◌, ◌≤◌, eqb, leb, List, [], ◌∷◌, ◌++◌, length, Some, Option, refl, sym, ap, ◌∙◌, arith}
use Rattle.std.specs.List.{join_with_byte}
use Rattle.std.proofs.lemmas.Bool.{cond-true, cond-false, le-leb, lt-leb, ne_eqb}
use Rattle.std.proofs.lemmas.List.{append_assoc}
use Rattle.std.proofs.lemmas.List.Splits.{join_with_byte-slice_split}
use Rattle.design.specs.Faults.{or_else}
use Rattle.frame_file.specs.Pieces.{fields_of, line_cut_off, lined, lines_of, pieces, whole_line}
use Rattle.frame_file.specs.Fields.{form_of, takes_form, unit_form}
use Rattle.frame_file.specs.Faults.{FileRefusal, wrong}
use Rattle.frame_file.specs.Refusals.{fields_refusal, file_refusal, line_refusal, lines_refusal}
use Rattle.frame_file.specs.Written.{commas, line}
use Rattle.frame_laws.proofs.Parted.{pieces_split, some_piece}

-- ---- the first line
lined_more : (t : List ℕ) (ps : List (List ℕ)) → 0 < length ps → lined (t ∷ ps) ≡ whole_line t ∷ lined ps
lined_more t [] some = absurd (omega arith)
lined_more t (p ∷ ps) some = refl

pub first_line : (bytes t rest : List ℕ) → pieces 10 bytes ≡ t ∷ pieces 10 rest → lines_of bytes ≡ whole_line t ∷ lines_of rest
first_line bytes t rest cut = ap lined cut ∙ lined_more t (pieces 10 rest) (some_piece 10 rest)

pub no_whole_line : (bytes : List ℕ) → pieces 10 bytes ≡ bytes ∷ [] → 0 < length bytes → lines_of bytes ≡ line_cut_off bytes ∷ []
no_whole_line [] one some = absurd (omega arith)
no_whole_line (b ∷ bytes) one some = ap lined one

-- ---- the refusal, from line i on
module _ (i : ℕ) (bytes t rest : List ℕ) (first : lines_of bytes ≡ whole_line t ∷ lines_of rest) where
  by_first : (o : Option FileRefusal) → line_refusal i (whole_line t) ≡ o → lines_refusal i (lines_of bytes) ≡ or_else o (lines_refusal (i + 1) (lines_of rest))
  by_first o is = ap (lines_refusal i) first ∙ ap (λ x. or_else x (lines_refusal (i + 1) (lines_of rest))) is

  pub line_judged : (o : Option FileRefusal) → i ≤ 1026 → fields_refusal (form_of i) i 1 (fields_of t) ≡ o
      → lines_refusal i (lines_of bytes) ≡ or_else o (lines_refusal (i + 1) (lines_of rest))
  line_judged o few is = by_first o (cond-true (leb i 1026) (fields_refusal (form_of i) i 1 (fields_of t)) (Some (wrong 32 i 1)) (le-leb i 1026 few) ∙ is)

  pub line_too_many : 1026 < i → lines_refusal i (lines_of bytes) ≡ Some (wrong 32 i 1)
  line_too_many many = by_first (Some (wrong 32 i 1)) (cond-false (leb i 1026) (fields_refusal (form_of i) i 1 (fields_of t)) (Some (wrong 32 i 1)) (lt-leb i 1026 many))

pub within_length : (bytes : List ℕ) → length bytes ≤ 32768 → file_refusal bytes ≡ lines_refusal 1 (lines_of bytes)
within_length bytes short = cond-true (leb (length bytes) 32768) (lines_refusal 1 (lines_of bytes)) (Some (wrong 33 0 0)) (le-leb (length bytes) 32768 short)

pub too_long : (bytes : List ℕ) → 32768 < length bytes → file_refusal bytes ≡ Some (wrong 33 0 0)
too_long bytes long = cond-false (leb (length bytes) 32768) (lines_refusal 1 (lines_of bytes)) (Some (wrong 33 0 0)) (lt-leb (length bytes) 32768 long)

pub form_of_unit : (i : ℕ) → 3 ≤ i → form_of i ≡ unit_form
form_of_unit i past = cond-false (eqb i 1) _ _ (ne_eqb i 1 (λ e. omega arith)) ∙ cond-false (eqb i 2) takes_form unit_form (ne_eqb i 2 (λ e. omega arith))

-- ---- the bytes
commas_join : (fs : List (List ℕ)) → commas fs ≡ join_with_byte 44 fs
commas_join [] = refl
commas_join (f ∷ []) = refl
commas_join (f ∷ g ∷ fs) = ap (λ t. f ++ 44 ∷ t) (commas_join (g ∷ fs))

-- the fields of a text with commas between them are the text
pub commas_of_fields : (t : List ℕ) → commas (fields_of t) ≡ t
commas_of_fields t = commas_join (fields_of t) ∙ ap (join_with_byte 44) (pieces_split 44 t) ∙ join_with_byte-slice_split 44 t

pub bytes_of_line : (bytes t rest : List ℕ) (fs : List (List ℕ)) → bytes ≡ t ++ 10 ∷ rest → fields_of t ≡ fs → bytes ≡ line fs ++ rest
bytes_of_line bytes t rest fs split is =
    split ∙ ap (λ s. s ++ 10 ∷ rest) (sym (commas_of_fields t) ∙ ap commas is) ∙ sym (append_assoc (commas fs) (10 ∷ []) rest)
