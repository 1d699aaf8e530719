-- Passes over the rows of a list: the search for a row that falls, and the loop over pairs of neighbours that notes the bounds of its parts.
use Rattle.std.proofs.Common.{◌≡◌, ℕ, zero, suc, ◌+◌, ◌-◌, ◌<◌, ◌≤◌, Bool, true, false, cond, List, [], ◌∷◌, ◌++◌, length, take, drop, MatchOption, Some, None, Option, sym, refl, ap, ap₂, subst, ◌∙◌, append_assoc, length-append, add-one, arith}
use Rattle.std.proofs.lemmas.List.{at_drop_more, at_drop_all, drop-drop, get_or-take, get_or-drop, length-drop}
use Rattle.design.specs.Lists.{row_at, first}
use Rattle.design.proofs.Firsts.{first_here, none_first}
use Rattle.design.specs.declared.row.Row.{Row}
use Rattle.parts.specs.Parts.{starts, bounds}
use Rattle.parts.specs.Orders.{falls_at}

-- the row i, compared with the row before it
pub falls_next : (lower : Row → Row → Bool) (list : List Row) (i : ℕ) → 1 ≤ i → falls_at lower list i ≡ lower (row_at list (i - 1)) (row_at list i)
falls_next lower list zero l = absurd (omega arith)
falls_next lower list (suc i) l = ap (λ k. lower (row_at list k) (row_at list (suc i))) (back i)
  where
    back : (i : ℕ) → i ≡ suc i - 1
    back i = omega arith

-- the search for the first row, from row 1 on, that is lower than the row before it
pub fall_found : (lower : Row → Row → Bool) (list : List Row) (o : Option ℕ)
    → MatchOption o ((k : ℕ) → 1 ≤ k → k < length list → lower (row_at list (k - 1)) (row_at list k) ≡ false)
    (λ i. (1 ≤ i) × (i < length list) × (lower (row_at list (i - 1)) (row_at list i) ≡ true) × ((k : ℕ) → 1 ≤ k → k < i → lower (row_at list (k - 1)) (row_at list k) ≡ false))
    → o ≡ first (length list) (falls_at lower list)
fall_found lower list o h = by o h
  where
    none : (n : ℕ) → ((k : ℕ) → 1 ≤ k → k < n → lower (row_at list (k - 1)) (row_at list k) ≡ false) → (k : ℕ) → k < n → falls_at lower list k ≡ false
    none n h zero l = refl
    none n h (suc k) l = falls_next lower list (suc k) (omega arith) ∙ h (suc k) (omega arith) l

    by : (o : Option ℕ)
        → MatchOption o ((k : ℕ) → 1 ≤ k → k < length list → lower (row_at list (k - 1)) (row_at list k) ≡ false)
        (λ i. (1 ≤ i) × (i < length list) × (lower (row_at list (i - 1)) (row_at list i) ≡ true) × ((k : ℕ) → 1 ≤ k → k < i → lower (row_at list (k - 1)) (row_at list k) ≡ false))
        → o ≡ first (length list) (falls_at lower list)
    by None h = sym (none_first (length list) (falls_at lower list) (none (length list) h))
    by (Some i) h = sym (first_here (length list) i (falls_at lower list) (none_first i (falls_at lower list) (none i h.3)) (falls_next lower list i h.0 ∙ h.2) h.1)

module _ (alike : Row → Row → Bool) (list : List Row) where
  starts_more : (i : ℕ) (q : Row) → i < length list
      → starts alike i q (drop i list) ≡ cond (alike q (row_at list i)) (starts alike (i + 1) (row_at list i) (drop (i + 1) list)) (i ∷ starts alike (i + 1) (row_at list i) (drop (i + 1) list))
  unfolding starts
  starts_more i q l =
      at_drop_more (λ (ys : List Row). starts alike i q ys) list i (record { stratum = 0; cluster = 0; size = 0 }) l
      ∙ ap (λ n. cond (alike q (row_at list i)) (starts alike n (row_at list i) (drop (i + 1) list)) (i ∷ starts alike n (row_at list i) (drop (i + 1) list))) (sym (add-one i))

  pub bounds_first : 0 < length list → 0 ∷ starts alike 1 (row_at list 0) (drop 1 list) ≡ bounds alike list
  unfolding starts bounds
  bounds_first l = by list l
    where
      by : (xs : List Row) → 0 < length xs → 0 ∷ starts alike 1 (row_at xs 0) (drop 1 xs) ≡ bounds alike xs
      by [] l = absurd (omega arith)
      by (r ∷ rs) l = refl

  -- the bounds up to the row i are noted, and row i is joined to the row before it or not
  pub starts_step : (i : ℕ) (b : Bool) (noted goal : List ℕ) → i < length list → b ≡ alike (row_at list (i - 1)) (row_at list i)
      → noted ++ starts alike i (row_at list (i - 1)) (drop i list) ≡ goal
      → cond b noted (noted ++ i ∷ []) ++ starts alike (i + 1) (row_at list (i + 1 - 1)) (drop (i + 1) list) ≡ goal
  starts_step i b noted goal l is inv =
      ap (λ k. cond b noted (noted ++ i ∷ []) ++ starts alike (i + 1) (row_at list k) (drop (i + 1) list)) (back i)
      ∙ by b (starts alike (i + 1) (row_at list i) (drop (i + 1) list))
      ∙ ap (λ t. noted ++ cond t (starts alike (i + 1) (row_at list i) (drop (i + 1) list)) (i ∷ starts alike (i + 1) (row_at list i) (drop (i + 1) list))) is
      ∙ sym (ap (λ (ys : List ℕ). noted ++ ys) (starts_more i (row_at list (i - 1)) l))
      ∙ inv
    where
      back : (i : ℕ) → i + 1 - 1 ≡ i
      back i = omega arith

      by : (b : Bool) (S : List ℕ) → cond b noted (noted ++ i ∷ []) ++ S ≡ noted ++ cond b S (i ∷ S)
      by true S = refl
      by false S = append_assoc noted (i ∷ []) S

  pub starts_end : (i : ℕ) (q : Row) → length list ≤ i → i ∷ [] ≡ starts alike i q (drop i list)
  unfolding starts
  starts_end i q l = sym (at_drop_all (λ (ys : List Row). starts alike i q ys) list i l)

  -- the pairs of neighbouring rows are looked at up to the one of row i with the row after it, `rest` is left of the list, and `noted` are the
  -- bounds so far
  pub record Noting (goal : List ℕ) (i size : ℕ) (rest : List Row) (noted : List ℕ) : Type 0 where
    pub pairs : size ≡ 2
    pub left : rest ≡ drop i list
    pub low : i < length list
    pub few : length noted ≤ i + 1
    pub noted_are : noted ++ starts alike (i + 1) (row_at list (i + 1 - 1)) (drop (i + 1) list) ≡ goal

  pub noted_more : (b : Bool) (goal noted : List ℕ) (i i' size size' : ℕ) (rest rest' pair : List Row) → Noting goal i size rest noted → size' ≡ size → size ≤ length rest
      → pair ≡ take size rest → rest' ≡ drop 1 rest → i' ≡ i + 1 → b ≡ alike (row_at pair 0) (row_at pair 1) → Noting goal i' size' rest' (cond b noted (noted ++ (i + 1) ∷ []))
  noted_more b goal noted i i' size size' rest rest' pair N same l is rest_is next joins = record {
    pairs = same ∙ N.pairs;
    left = rest_is ∙ ap (drop 1) N.left ∙ drop-drop 1 i list ∙ ap (λ n. drop n list) (sym next);
    low = omega (arith, here);
    few = omega (arith, longer b, N.few);
    noted_are =
        subst (λ n. cond b noted (noted ++ (i + 1) ∷ []) ++ starts alike (n + 1) (row_at list (n + 1 - 1)) (drop (n + 1) list) ≡ goal) (sym next)
        (starts_step (i + 1) b noted goal here alike_is N.noted_are);
  }
    where
      none : Row
      none = record { stratum = 0; cluster = 0; size = 0 }

      here : i + 1 < length list
      here = omega (arith, l, N.pairs, ap length N.left, length-drop i list)

      longer : (b : Bool) → length (cond b noted (noted ++ (i + 1) ∷ [])) ≤ length noted + 1
      longer true = omega arith
      longer false = omega (arith, length-append noted ((i + 1) ∷ []))

      row : (k : ℕ) → k < 2 → row_at pair k ≡ row_at list (i + k)
      row k m = ap (λ (rs : List Row). row_at rs k) is ∙ get_or-take size rest k none (omega (arith, N.pairs)) ∙ ap (λ (rs : List Row). row_at rs k) N.left ∙ get_or-drop i list k none

      alike_is : b ≡ alike (row_at list (i + 1 - 1)) (row_at list (i + 1))
      alike_is =
          let e : i + 0 ≡ i + 1 - 1 = omega arith in
          joins ∙ ap₂ alike (row 0 (omega arith) ∙ ap (λ n. row_at list n) e) (row 1 (omega arith))

  pub noted_first : (i size : ℕ) (rest : List Row) (noted : List ℕ) → 0 < length list → size ≡ 2 → rest ≡ list → i ≡ 0 → noted ≡ 0 ∷ [] → Noting (bounds alike list) i size rest noted
  noted_first i size rest noted some pairs left none first =
      subst (λ n. Noting (bounds alike list) n size rest noted) (sym none) (record {
        pairs = pairs;
        left = left;
        low = some;
        few = omega (arith, ap length first);
        noted_are = ap (λ (xs : List ℕ). xs ++ starts alike 1 (row_at list 0) (drop 1 list)) first ∙ bounds_first some;
      })

  pub noted_last : (goal : List ℕ) (i size : ℕ) (rest : List Row) (noted : List ℕ) → Noting goal i size rest noted → length rest < size → noted ++ length list ∷ [] ≡ goal
  noted_last goal i size rest noted N done =
      let past : i + 1 ≡ length list = omega (arith, N.low, N.pairs, ap length N.left, length-drop i list) in
      ap (λ n. noted ++ n ∷ []) (sym past) ∙ ap (λ (xs : List ℕ). noted ++ xs) (starts_end (i + 1) (row_at list (i + 1 - 1)) (omega (arith, past))) ∙ N.noted_are
