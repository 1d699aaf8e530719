-- The entries of a total, as they are written one after another.
use Rattle.std.proofs.Common.{◌≡◌, ℕ, ◌+◌, ◌≤◌, ℤ, List, [], ◌∷◌, ◌++◌, map, length, take, Some, sym, ap, ◌∙◌, append_assoc, slice_get, rules}
use Rattle.std.specs.Fmt.{signed_decimal}
use Rattle.std.specs.List.{flat_map}
use Rattle.std.proofs.lemmas.List.{flat_map_more, take_all, take_more}
use Rattle.std.proofs.lemmas.Option.{get_or_from_slice_get, slice_get_within}
use Rattle.frame_file.specs.Written.{commas}
use Rattle.sample_file.specs.Text.{total_line}

-- an entry, and the comma before it
abbrev pub after_comma : ℤ → List ℕ
after_comma x = 44 ∷ signed_decimal x

pub commas_before_entries : (name : List ℕ) (entries : List ℤ) → commas (name ∷ map signed_decimal entries) ≡ name ++ flat_map after_comma entries
commas_before_entries name [] = search rules
commas_before_entries name (x ∷ entries) = ap (λ fields. name ++ 44 ∷ fields) (commas_before_entries (signed_decimal x) entries)

pub one_entry_more : (bytes : List ℕ) (entries : List ℤ) (i : ℕ) (x : ℤ) → slice_get entries i ≡ Some x
    → (bytes ++ flat_map after_comma (take i entries)) ++ after_comma x ≡ bytes ++ flat_map after_comma (take (i + 1) entries)
one_entry_more bytes entries i x e =
    flat_map_more after_comma bytes (take i entries) x ∙ ap (λ xs. bytes ++ flat_map after_comma xs)
    (ap (λ y. take i entries ++ y ∷ []) (sym (get_or_from_slice_get entries i x x e)) ∙ sym (take_more entries i x (slice_get_within entries i x e)))

-- a name and all entries, with the end byte, are the line of a total
pub total_written : (old now new name : List ℕ) (entries : List ℤ) (i : ℕ) → length entries ≤ i → now ≡ (old ++ name) ++ flat_map after_comma (take i entries)
    → new ≡ now ++ 10 ∷ [] → new ≡ old ++ total_line name entries
total_written old now new name entries i all is ended =
    let fields = flat_map after_comma entries in
    let joined : ((old ++ name) ++ fields) ++ 10 ∷ [] ≡ old ++ ((name ++ fields) ++ 10 ∷ []) = simp append_assoc in
    ended ∙ ap (λ bytes. bytes ++ 10 ∷ []) (is ∙ ap (λ xs. (old ++ name) ++ flat_map after_comma xs) (take_all i entries all))
    ∙ joined ∙ ap (λ bytes. old ++ (bytes ++ 10 ∷ [])) (sym (commas_before_entries name entries))
