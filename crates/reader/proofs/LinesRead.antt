-- The refusal of a file and the bytes of it, as a cursor goes through it line by line.
use Rattle.std.proofs.Common.{◌≡◌, ℕ, ◌+◌, ◌<◌, ◌≤◌, List, [], ◌∷◌, ◌++◌, length, Option, Some, None, sym, ap, subst, ◌∙◌, ⊎_elim, leb, arith}
use Rattle.std.specs.List.{All}
use Rattle.std.proofs.lemmas.Bool.{cond-true, le-leb}
use Rattle.std.proofs.lemmas.List.{append_assoc, append-nil, length_push}
use Rattle.std.proofs.lemmas.List.Elements.{All-push}
use Rattle.frame_file.specs.declared.frame.FrameUnit.{FrameUnit}
use Rattle.frame_file.specs.declared.frame.Header.{Header}
use Rattle.frame_file.specs.Pieces.{fields_of, lines_of}
use Rattle.frame_file.specs.Fields.{form_of, unit_form}
use Rattle.frame_file.specs.Faults.{FileRefusal, wrong}
use Rattle.frame_file.specs.Refusals.{fields_refusal, lines_refusal}
use Rattle.frame_file.specs.Written.{line, header_fields, takes_fields, unit_fields, units_written, HeaderFits, TakesFit, UnitFits}
use Rattle.frame_laws.proofs.FieldSteps.{header_fine, takes_fine, unit_fine}
use Rattle.frame_laws.proofs.LineSteps.{bytes_of_line, first_line, form_of_unit, line_judged, line_too_many}
use Rattle.reader.specs.Cursors.{NoLine, TakesLine}
use Rattle.reader.specs.declared.lines.Lines.{Lines}

-- of the lines of these bytes, of which the first is line `first`, those before line i have nothing wrong and are these bytes in front;
-- the cursor is at line i
pub record Passed (first : ℕ) (bytes : List ℕ) (front : List ℕ) (i : ℕ) (at : Lines) : Type 0 where
  pub same : lines_refusal first (lines_of bytes) ≡ lines_refusal i (lines_of at.rest.now)
  pub split : bytes ≡ front ++ at.rest.now
  pub number : at.number + 1 ≡ i

pub nothing_passed : (bytes : List ℕ) (at : Lines) → (at.rest.now ≡ bytes) × (at.number ≡ 0) → Passed 1 bytes [] 1 at
nothing_passed bytes at new = record { same = ap (λ b. lines_refusal 1 (lines_of b)) (sym new.0); split = sym new.0; number = omega (arith, new.1) }

module _ {first : ℕ} {bytes front : List ℕ} {i : ℕ} {at : Lines} (passed : Passed first bytes front i at) where
  pub bytes_are : {more : List ℕ} → at.rest.now ≡ more → bytes ≡ front ++ more
  bytes_are e = passed.split ∙ ap (λ t. front ++ t) e

  pub no_line : (next : Lines) {x : FileRefusal} → NoLine at.rest.now × (x ≡ wrong 29 next.number 1) → next.number ≡ at.number + 1 → i ≤ 2 → lines_refusal first (lines_of bytes) ≡ Some x
  no_line next {x} h n early =
      let here : next.number ≡ i = omega (arith, passed.number) in
      let is : Some (wrong 29 i 1) ≡ Some x = ap (λ k. Some (wrong 29 k 1)) (sym here) ∙ ap Some (sym h.1) in
      passed.same
      ∙ ⊎_elim
      (λ none. ap (λ b. lines_refusal i (lines_of b)) none ∙ cond-true (leb i 2) (Some (wrong 29 i 1)) _ (le-leb i 2 early))
      (λ off. ap (lines_refusal i) off)
      h.0
      ∙ is

  module _ {text : List ℕ} {next : Lines} (takes : TakesLine at text next) where
    pub after_line : (fs : List (List ℕ)) → i ≤ 1026 → fields_of text ≡ fs → fields_refusal (form_of i) i 1 fs ≡ None → Passed first bytes (front ++ line fs) (i + 1) next
    after_line fs few is none = record {
      same = passed.same ∙ line_judged i at.rest.now text next.rest.now (first_line at.rest.now text next.rest.now takes.cut.pieces) None few (ap (fields_refusal (form_of i) i 1) is ∙ none);
      split = passed.split ∙ ap (λ t. front ++ t) (bytes_of_line at.rest.now text next.rest.now fs takes.cut.bytes is) ∙ sym (append_assoc front (line fs) next.rest.now);
      number = omega (arith, passed.number, takes.number);
    }

    pub wrong_in_line : {x : FileRefusal} → i ≤ 1026 → fields_refusal (form_of i) i 1 (fields_of text) ≡ Some x → lines_refusal first (lines_of bytes) ≡ Some x
    wrong_in_line {x} few is = passed.same ∙ line_judged i at.rest.now text next.rest.now (first_line at.rest.now text next.rest.now takes.cut.pieces) (Some x) few is

    pub line_surplus : {x : FileRefusal} → 1026 < i → x ≡ wrong 32 next.number 1 → lines_refusal first (lines_of bytes) ≡ Some x
    line_surplus {x} many is =
        let here : i ≡ next.number = omega (arith, passed.number, takes.number) in
        passed.same ∙ line_too_many i at.rest.now text next.rest.now (first_line at.rest.now text next.rest.now takes.cut.pieces) many ∙ ap (λ n. Some (wrong 32 n 1)) here ∙ ap Some (sym is)

-- ---- the first two lines
pub header_passed : {bytes text : List ℕ} {at next : Lines} {h : Header} → Passed 1 bytes [] 1 at → TakesLine at text next → (fields_of text ≡ header_fields h) × HeaderFits h
    → Passed 1 bytes (line (header_fields h)) 2 next
header_passed {h = h} passed takes is = after_line passed takes (header_fields h) (omega arith) is.0 (header_fine 1 h is.1)

pub takes_passed : {bytes front text takes : List ℕ} {at next : Lines} → Passed 1 bytes front 2 at → TakesLine at text next → (fields_of text ≡ takes_fields takes) × TakesFit takes
    → Passed 1 bytes (front ++ line (takes_fields takes)) 3 next
takes_passed {takes = takes} passed line is = after_line passed line (takes_fields takes) (omega arith) is.0 (takes_fine 2 takes is.1)

-- ---- units
written_more : (units : List FrameUnit) (u : FrameUnit) → units_written units ++ line (unit_fields u) ≡ units_written (units ++ u ∷ [])
written_more [] u = sym (append-nil (line (unit_fields u)))
written_more (v ∷ units) u = append_assoc (line (unit_fields v)) (units_written units) (line (unit_fields u)) ∙ ap (λ t. line (unit_fields v) ++ t) (written_more units u)

-- these units were read of the bytes, and the cursor is at the next line
pub record UnitsRead (bytes : List ℕ) (units : List FrameUnit) (at : Lines) : Type 0 where
  pub passed : Passed 3 bytes (units_written units) (length units + 3) at
  pub each : All UnitFits units
  pub most : length units ≤ 1024

module _ {bytes : List ℕ} {units : List FrameUnit} {at : Lines} (read : UnitsRead bytes units at) {text : List ℕ} {next : Lines} (takes : TakesLine at text next) where
  by_unit_form : (fs : List (List ℕ)) (o : Option FileRefusal) → fields_refusal unit_form (length units + 3) 1 fs ≡ o → fields_refusal (form_of (length units + 3)) (length units + 3) 1 fs ≡ o
  by_unit_form fs o e = ap (λ form. fields_refusal form (length units + 3) 1 fs) (form_of_unit (length units + 3) (omega arith)) ∙ e

  pub one_more : {more : List FrameUnit} {u : FrameUnit} → length units < 1024 → (fields_of text ≡ unit_fields u) × UnitFits u → more ≡ units ++ u ∷ [] → UnitsRead bytes more next
  one_more {more} {u} few is same =
      let longer = length_push units u in
      let further : length units + 3 + 1 ≡ length (units ++ u ∷ []) + 3 = omega arith in
      let next_passed = after_line read.passed takes (unit_fields u) (omega arith) is.0 (by_unit_form (unit_fields u) None (unit_fine (length units + 3) u is.1)) in
      subst (λ us. UnitsRead bytes us next) (sym same) (record {
        passed = subst (λ t. Passed 3 bytes t (length (units ++ u ∷ []) + 3) next) (written_more units u) (subst (λ i. Passed 3 bytes (units_written units ++ line (unit_fields u)) i next) further next_passed);
        each = All-push UnitFits units u read.each is.1;
        most = omega arith;
      })

  pub unit_wrong : {x : FileRefusal} → length units < 1024 → fields_refusal unit_form next.number 1 (fields_of text) ≡ Some x → lines_refusal 3 (lines_of bytes) ≡ Some x
  unit_wrong {x} few is =
      let here : next.number ≡ length units + 3 = omega (arith, read.passed.number, takes.number) in
      wrong_in_line read.passed takes (omega arith) (by_unit_form (fields_of text) (Some x) (subst (λ i. fields_refusal unit_form i 1 (fields_of text) ≡ Some x) here is))

  pub unit_surplus : {x : FileRefusal} → length units ≡ 1024 → x ≡ wrong 32 next.number 1 → lines_refusal 3 (lines_of bytes) ≡ Some x
  unit_surplus many is = line_surplus read.passed takes (omega arith) is
