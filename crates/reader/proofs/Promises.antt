-- What reading by the cursors promises, in other words, by the laws of the frame file.
use Rattle.std.proofs.Common.{◌≡◌, ℕ, List, Result, Ok, Err, Some, None, Option, sym, ap, ◌∙◌, subst}
use Rattle.frame_file.specs.declared.frame.Frame.{Frame}
use Rattle.frame_file.specs.declared.fault.FieldFault.{FieldFault}
use Rattle.frame_file.specs.Faults.{FileRefusal, numbered_field}
use Rattle.frame_file.specs.Refusals.{file_refusal}
use Rattle.frame_file.specs.Written.{written, Fits}
use Rattle.frame_laws.proofs.FirstSpots.{refused_at_first, else_nothing_wrong}
use Rattle.frame_laws.proofs.WrittenAccepted.{written_is_accepted}
use Rattle.frame_laws.proofs.WrittenOnce.{written_once}
use Rattle.reader.specs.Reading.{HasNothingWrong, IsFirstWrong, IsRefusal, ReadsExactly, ReadsOrRefuses}

-- what is written of a frame in range is not refused
unrefused : (bytes : List ℕ) (f : Frame) → (bytes ≡ written f) × Fits f → file_refusal bytes ≡ None
unrefused bytes f h = ap file_refusal h.0 ∙ written_is_accepted f h.1

pub exactly : (bytes : List ℕ) (result : Result Frame FieldFault) → ReadsOrRefuses bytes result → ReadsExactly bytes result
exactly bytes (Ok g) read f = (
  λ e. let same : g ≡ f = cc in subst (λ h. (bytes ≡ written h) × Fits h) same read,
  λ h. ap Ok (written_once g f read.1 h.1 (sym read.0 ∙ h.0)),
)
exactly bytes (Err x) refused f = (
  λ e. cc,
  λ h. absurd (let none : ◌≡◌ {A = Option FileRefusal} (Some (numbered_field x)) None = sym refused ∙ unrefused bytes f h in cc),
)

pub is_refusal : (bytes : List ℕ) (result : Result Frame FieldFault) → ReadsOrRefuses bytes result → IsRefusal bytes result
is_refusal bytes (Ok f) read = tt
is_refusal bytes (Err x) refused = refused

pub is_first_wrong : (bytes : List ℕ) (result : Result Frame FieldFault) → ReadsOrRefuses bytes result → IsFirstWrong bytes result
is_first_wrong bytes (Ok f) read = tt
is_first_wrong bytes (Err x) refused = (refused_at_first bytes (numbered_field x)).0 refused

pub nothing_wrong : (bytes : List ℕ) (result : Result Frame FieldFault) → ReadsOrRefuses bytes result → HasNothingWrong bytes result
nothing_wrong bytes (Ok f) read = (else_nothing_wrong bytes).0 (unrefused bytes f read)
nothing_wrong bytes (Err x) refused = tt
