-- A text is cut at the first place of a byte.
use Rattle.std.proofs.Common.{◌≡◌, ℕ, ◌+◌, ◌<◌, ◌==◌, List, [], ◌∷◌, ◌++◌, length, take, drop, Some, None, sym, ap, ◌∙◌, arith}
use Rattle.std.specs.List.{position}
use Rattle.std.proofs.lemmas.Bool.{eqb-true, eqb-false}
use Rattle.std.proofs.lemmas.Grind.{common_steps}
use Rattle.std.proofs.lemmas.List.{drop_more, get_or-take, get_or_default, length-take-le, take-append-drop}
use Rattle.std.proofs.lemmas.List.Quantifiers.{position-Some}
use Rattle.std.proofs.lemmas.List.Sums.{fails_before_first}
use Rattle.frame_file.specs.Pieces.{pieces}
use Rattle.frame_laws.proofs.Parted.{Without, first_piece, one_piece}
use Rattle.reader.specs.Cuts.{Cut}

pub cut_there : (c i : ℕ) (text : List ℕ) → position (λ b. b == c) text ≡ Some i → Cut c text (take i text) (drop (i + 1) text)
cut_there c i text e =
    let found = position-Some (λ b. b == c) text i 0 e in
    let inside : i < length text = found.0 in
    let bytes : text ≡ take i text ++ c ∷ drop (i + 1) text =
    sym (take-append-drop i text) ∙ ap (λ t. take i text ++ t) (drop_more text i 0 inside ∙ ap (λ b. b ∷ drop (i + 1) text) (eqb-true _ c found.1)) in
    let before : Without c (take i text) = λ k d l.
    let early : k < i = omega (arith, length-take-le i text) in
    let place : k < length text = omega arith in
    rw (get_or-take i text k d early, get_or_default text k d 0 place) (eqb-false _ c (found.2 k early)) in
    record { pieces = ap (pieces c) bytes ∙ first_piece c (take i text) (drop (i + 1) text) before; bytes = bytes }

pub cut_nowhere : (c : ℕ) (text : List ℕ) → position (λ b. b == c) text ≡ None → pieces c text ≡ text ∷ []
cut_nowhere c text e = one_piece c text (λ k d l. eqb-false _ c (fails_before_first (λ b. b == c) text k d (grind (arith, common_steps))))
