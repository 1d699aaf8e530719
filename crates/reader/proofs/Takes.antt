-- The line of the takes, take by take.
use Rattle.std.proofs.Common.{◌≡◌, ℕ, ◌+◌, ◌<◌, ◌≤◌, List, [], ◌∷◌, ◌++◌, length, refl, sym, ap, subst, ◌∙◌, Some, arith}
use Rattle.std.specs.Fmt.{decimal}
use Rattle.std.specs.List.{All}
use Rattle.std.proofs.lemmas.List.{append_assoc, append-nil, length_push, length-map, map_push}
use Rattle.std.proofs.lemmas.List.Elements.{All-push}
use Rattle.frame_file.specs.Pieces.{fields_of}
use Rattle.frame_file.specs.Fields.{takes_form}
use Rattle.frame_file.specs.Faults.{FileRefusal, wrong}
use Rattle.frame_file.specs.Refusals.{fields_refusal}
use Rattle.frame_file.specs.Written.{Between, takes_fields, TakesFit}
use Rattle.frame_laws.proofs.FieldSteps.{no_take_kind, take_kind}
use Rattle.frame_laws.proofs.Parted.{some_piece}
use Rattle.reader.specs.Cursors.{left, TakesField}
use Rattle.reader.specs.declared.fields.Fields.{Fields}
use Rattle.reader.proofs.Columns.{FineTo, after_number, surplus_there}

-- these takes were read of the fields fs of line i, and the cursor is at the next
pub record TakesRead (i : ℕ) (fs : List (List ℕ)) (takes : List ℕ) (at : Fields) : Type 0 where
  pub fine : FineTo takes_form i (length takes + 1) fs at
  pub split : takes_fields takes ++ left at ≡ fs
  pub each : All (Between 1 1024) takes
  pub most : length takes ≤ 64

pub one_more : {i : ℕ} {fs : List (List ℕ)} {takes more : List ℕ} {at next : Fields} {t : ℕ} → TakesRead i fs takes at → length takes < 64 → TakesField at (decimal t) next × Between 1 1024 t
    → more ≡ takes ++ t ∷ [] → TakesRead i fs more next
one_more {i} {fs} {takes} {more} {at} {next} {t} read few step is =
    subst (λ ts. TakesRead i fs ts next) (sym is) (record {
      fine = subst (λ c. FineTo takes_form i (c + 1) fs next) (sym (length_push takes t)) (after_number read.fine step (take_kind (length takes + 1) (omega arith)) refl);
      split = ap (λ l. l ++ left next) (map_push decimal takes t) ∙ append_assoc (takes_fields takes) (decimal t ∷ []) (left next) ∙ ap (λ l. takes_fields takes ++ l) (sym step.0.field) ∙ read.split;
      each = All-push (Between 1 1024) takes t read.each step.1;
      most = omega (arith, length_push takes t);
    })

pub too_many : {i : ℕ} {fs : List (List ℕ)} {takes : List ℕ} {at : Fields} {x : FileRefusal} → TakesRead i fs takes at → 64 ≤ length takes
    → (0 < length (left at)) × (x ≡ wrong 29 at.line at.column) → fields_refusal takes_form i 1 fs ≡ Some x
too_many {takes = takes} read many more = surplus_there read.fine more (no_take_kind (length takes + 1) (omega arith))

pub all_taken : {i : ℕ} {takes : List ℕ} {at : Fields} (text : List ℕ) → TakesRead i (fields_of text) takes at → left at ≡ [] → (fields_of text ≡ takes_fields takes) × TakesFit takes
all_taken {i} {takes} {at} text read none =
    let same : takes_fields takes ≡ fields_of text = sym (append-nil (takes_fields takes)) ∙ ap (λ l. takes_fields takes ++ l) (sym none) ∙ read.split in
    (sym same, record { each = read.each; count = (omega (arith, some_piece 44 text, ap length same, length-map takes decimal), read.most) })
