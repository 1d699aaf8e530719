-- What is written of a frame in range is not refused.
use Rattle.std.proofs.Common.{◌≡◌, ℕ, ◌+◌, ◌≤◌, List, [], ◌∷◌, ◌++◌, length, None, ap, ◌∙◌, append_assoc, arith}
use Rattle.std.specs.List.{AllByRecursion}
use Rattle.std.proofs.lemmas.Bool.{cond-false, lt-leb}
use Rattle.std.proofs.lemmas.List.Elements.{recursion_from_All}
use Rattle.frame_file.specs.declared.frame.FrameUnit.{FrameUnit}
use Rattle.frame_file.specs.Pieces.{lines_of}
use Rattle.frame_file.specs.Fields.{form_of}
use Rattle.frame_file.specs.Refusals.{fields_refusal, lines_refusal}
use Rattle.frame_file.specs.Written.{commas, line, header_fields, takes_fields, unit_fields, units_written, written, UnitFits}
use Rattle.frame_laws.specs.Laws.{WrittenIsAccepted}
use Rattle.frame_laws.proofs.FieldSteps.{header_fine, takes_fine, unit_fine}
use Rattle.frame_laws.proofs.LineSteps.{line_judged, within_length, form_of_unit}
use Rattle.frame_laws.proofs.WrittenParts.{Parts, lines_of_written, header_parts, takes_parts, unit_parts}
use Rattle.frame_laws.proofs.WrittenLengths.{written_short}

-- a line that is written of fields of which none is refused
line_accepted : (i : ℕ) (fs : List (List ℕ)) (rest : List ℕ) → i ≤ 1026 → Parts fs → fields_refusal (form_of i) i 1 fs ≡ None
    → lines_refusal i (lines_of (line fs ++ rest)) ≡ lines_refusal (i + 1) (lines_of rest)
line_accepted i fs rest few p fine =
    line_judged i (line fs ++ rest) (commas fs) rest (lines_of_written fs rest p) None few (ap (fields_refusal (form_of i) i 1) p.fields ∙ fine)

-- units from line i on, as many as there may be
units_accepted : (i : ℕ) (units : List FrameUnit) → AllByRecursion UnitFits units → 3 ≤ i → i + length units ≤ 1027 → 4 ≤ i + length units
    → lines_refusal i (lines_of (units_written units)) ≡ None
units_accepted i [] w past few some = cond-false _ _ _ (lt-leb i 2 (omega arith)) ∙ cond-false _ _ _ (lt-leb i 3 (omega arith))
units_accepted i (u ∷ us) w past few some =
    line_accepted i (unit_fields u) (units_written us) (omega arith) (unit_parts u w.0) (ap (λ form. fields_refusal form i 1 (unit_fields u)) (form_of_unit i past) ∙ unit_fine i u w.0)
    ∙ units_accepted (i + 1) us w.1 (omega arith) (omega arith) (omega arith)

pub written_is_accepted : WrittenIsAccepted
written_is_accepted f w =
    let takes_on = line (takes_fields f.takes) ++ units_written f.units in
    within_length (written f) (written_short f w)
    ∙ ap (λ bytes. lines_refusal 1 (lines_of bytes)) (append_assoc (line (header_fields f.header)) (line (takes_fields f.takes)) (units_written f.units))
    ∙ line_accepted 1 (header_fields f.header) takes_on (omega arith) (header_parts f.header w.header) (header_fine 1 f.header w.header)
    ∙ line_accepted 2 (takes_fields f.takes) (units_written f.units) (omega arith) (takes_parts f.takes w.takes) (takes_fine 2 f.takes w.takes)
    ∙ units_accepted 3 f.units (recursion_from_All UnitFits f.units w.units.each) (omega arith) (omega (arith, w.units.count)) (omega (arith, w.units.count))
