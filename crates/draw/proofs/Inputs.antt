-- A file of which only a beginning is read: a file that is too long is refused, whatever follows.
use Rattle.std.proofs.Common.{◌≡◌, ℕ, ◌<◌, List, [], ◌++◌, length, take, cond, Some, None, Option, option_map, IfSome, sym, ap, subst, ◌∙◌, inl, inr, arith, length-take}
use Rattle.std.specs.Io.KnownBytes.{Appends}
use Rattle.std.proofs.lemmas.Bool.{cases_lt, lt-leb}
use Rattle.std.proofs.lemmas.List.{take_all}
use Rattle.frame_file.specs.Faults.{wrong}
use Rattle.frame_file.specs.Pieces.{lines_of}
use Rattle.frame_file.specs.Refusals.{file_refusal, lines_refusal}
use Rattle.frame_laws.proofs.LineSteps.{too_long}
use Rattle.response.specs.Responses.{Responds, RespondsTo}
use Rattle.draw.specs.Serving.{Serves}

read_enough : (bytes out : List ℕ) → Responds (take 32769 bytes) out → Responds bytes out
read_enough bytes out h = elim (cases_lt 32769 (length bytes)) [
  | inl l ↦
      let some = too_long (take 32769 bytes) (omega (arith, length-take 32769 bytes)) in
      subst (λ o. RespondsTo o bytes out) (sym (too_long bytes (omega (arith, l)))) (subst (λ o. RespondsTo o (take 32769 bytes) out) some h)
  | inr m ↦ subst (λ xs. Responds xs out) (take_all 32769 bytes m) h
]

-- where the bytes of the input are known, the response to what was read of them is the response to them
pub served : (known old new : Option (List ℕ)) (limit : ℕ) (empty input out : List ℕ) → limit ≡ 32769 → empty ≡ [] → IfSome (option_map (take limit) known) (λ bytes. input ≡ empty ++ bytes)
    → Responds input out → Appends old new out → Serves known old new
served None old new limit empty input out l e read responds appends = tt
served (Some bytes) old new limit empty input out l e read responds appends =
    let is = read ∙ ap (λ xs. xs ++ take limit bytes) e ∙ ap (λ n. take n bytes) l in
    (out, read_enough bytes out (subst (λ xs. Responds xs out) is responds), appends)
