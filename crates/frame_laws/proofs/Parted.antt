-- The pieces of a text, by its first cut.
use Rattle.std.proofs.Common.{◌≡◌, ◌≢◌, ℕ, ◌<◌, false, cond, eqb, List, [], ◌∷◌, ◌++◌, length, refl, sym, ap, ap₂, ◌∙◌, arith}
use Rattle.std.specs.List.{All, onto_first, slice_split}
use Rattle.std.proofs.lemmas.Bool.{ne_eqb, eq-eqb}
use Rattle.std.proofs.lemmas.List.Elements.{All-weaker}
use Rattle.std.proofs.lemmas.List.Splits.{length-slice_split, slice_split_at, slice_split_none}
use Rattle.frame_file.specs.Pieces.{onto, pieces}

onto_same : (b : ℕ) (ps : List (List ℕ)) → onto b ps ≡ onto_first b ps
onto_same b [] = refl
onto_same b (p ∷ ps) = refl

-- they are std's parts of the text
pub pieces_split : (c : ℕ) (bs : List ℕ) → pieces c bs ≡ slice_split (λ b. eqb b c) bs
pieces_split c [] = refl
pieces_split c (b ∷ bs) =
    let rest = pieces_split c bs in
    ap₂ (cond (eqb b c)) (ap (λ ps. [] ∷ ps) rest) (onto_same b (pieces c bs) ∙ ap (onto_first b) rest)

-- no byte of the text is c
abbrev pub Without : ℕ → List ℕ → Type 0
Without c bs = All (λ b. b ≢ c) bs

none_is : (c : ℕ) (bs : List ℕ) → Without c bs → All (λ b. eqb b c ≡ false) bs
none_is c bs h = All-weaker _ _ (λ b other. ne_eqb b c other) bs h

pub one_piece : (c : ℕ) (bs : List ℕ) → Without c bs → pieces c bs ≡ bs ∷ []
one_piece c bs h = pieces_split c bs ∙ slice_split_none _ bs (none_is c bs h)

pub first_piece : (c : ℕ) (p rest : List ℕ) → Without c p → pieces c (p ++ c ∷ rest) ≡ p ∷ pieces c rest
first_piece c p rest h =
    pieces_split c (p ++ c ∷ rest) ∙ slice_split_at _ p c rest (none_is c p h) (eq-eqb c c refl) ∙ ap (λ ps. p ∷ ps) (sym (pieces_split c rest))

pub some_piece : (c : ℕ) (bs : List ℕ) → 0 < length (pieces c bs)
some_piece c bs = omega (arith, ap length (pieces_split c bs), length-slice_split (λ b. eqb b c) bs)
