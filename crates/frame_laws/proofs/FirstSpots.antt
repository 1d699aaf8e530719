-- The refusal of a file is at the first spot that is wrong, and there is just one such spot.
use Rattle.std.proofs.Common.{◌≡◌, ℕ, zero, suc, ◌+◌, ◌<◌, ◌≤◌, Bool, true, false, cond, List, [], ◌∷◌, length, nat_le, Some, None, Option, refl, sym, ap, ◌∙◌, subst, inl, inr, ◌⊎◌, add-zero, arith}
use Rattle.std.proofs.lemmas.Bool.{leb-true, leb-false, cond_both, cases_order}
use Rattle.std.proofs.lemmas.Bool.Decides.{nat_tests}
use Rattle.design.specs.Faults.{or_else}
use Rattle.frame_file.specs.Pieces.{Line, fields_of, lines_of}
use Rattle.frame_file.specs.Fields.{Form, form_of, item}
use Rattle.frame_file.specs.Faults.{FileRefusal, wrong}
use Rattle.frame_file.specs.Refusals.{wrong_here, fields_refusal, line_refusal, absent, lines_refusal, file_refusal}
use Rattle.frame_file.specs.Spots.{field_spot, in_column_1, spot_of, spot, FirstSpot, FirstWrong, NothingWrong}
use Rattle.frame_laws.specs.Laws.{RefusedAtFirst, ElseNothingWrong}

-- ---- the first of a row
-- o is the first that a row has, if it has one
abbrev First : {X : Type 0} → (ℕ → Option X) → Option X → Type 0
First row None = (k : ℕ) → row k ≡ None
First row (Some x) = (k : ℕ) × (row k ≡ Some x) × ((b : ℕ) → b < k → row b ≡ None)

nowhere : {X : Type 0} (row : ℕ → Option X) → row 0 ≡ None → ((k : ℕ) → row (suc k) ≡ None) → (k : ℕ) → row k ≡ None
nowhere row z s zero = z
nowhere row z s (suc k) = s k

module _ {X : Type 0} (row rest : ℕ → Option X) (next : (k : ℕ) → row (suc k) ≡ rest k) where
  first_more : (o r : Option X) → row 0 ≡ o → First rest r → First row (or_else o r)
  first_more None None z h = nowhere row z (λ k. next k ∙ h k)
  first_more None (Some x) z h = (suc h.0, next h.0 ∙ h.1, before)
    where
      before : (b : ℕ) → b < suc h.0 → row b ≡ None
      before zero l = z
      before (suc b) l = next b ∙ h.2 b (omega arith)
  first_more (Some x) r z h = (0, z, λ b l. absurd (omega arith))

one_on : (c k : ℕ) → c + suc k ≡ c + 1 + k
one_on c k = omega arith

-- nothing follows where there is nothing at once
first_end : {X : Type 0} (row : ℕ → Option X) (o : Option X) → row 0 ≡ o → (o ≡ None → (k : ℕ) → row (suc k) ≡ None) → First row o
first_end row None z h = nowhere row z (h refl)
first_end row (Some x) z h = (0, z, λ b l. absurd (omega arith))

-- a fault of a whole line is in column 1 alone
in_column_one : (i number : ℕ) → First (λ k. wrong_here i (1 + k) (in_column_1 number k)) (Some (wrong number i 1))
in_column_one i number = (0, refl, λ b l. absurd (omega arith))

-- ---- the columns of a line
-- from column c on there is no field
missing : (form : Form) (i c : ℕ) → First (λ k. wrong_here i (c + k) (field_spot form (c + k) None)) (fields_refusal form i c [])
missing form i c = first_end _ _ (grind (arith, nat_tests)) later
  where
    later : fields_refusal form i c [] ≡ None → (k : ℕ) → wrong_here i (c + suc k) (field_spot form (c + suc k) None) ≡ None
    later e k = grind (arith, nat_tests, e)

fields_first : (form : Form) (i c : ℕ) (fs : List (List ℕ)) → First (λ k. wrong_here i (c + k) (field_spot form (c + k) (item fs k))) (fields_refusal form i c fs)
fields_first form i c [] = missing form i c
fields_first form i c (f ∷ fs) =
    first_more _ (λ k. wrong_here i (c + 1 + k) (field_spot form (c + 1 + k) (item fs k))) (λ k. ap (λ n. wrong_here i n (field_spot form n (item fs k))) (one_on c k))
    _ _ (ap (λ n. wrong_here i n (field_spot form n (Some f))) (add-zero c)) (fields_first form i (c + 1) fs)

-- the refusal of a line, or that of its absence
abbrev refusal_at : ℕ → Option Line → Option FileRefusal
refusal_at i None = absent i
refusal_at i (Some l) = line_refusal i l

columns_first : (i : ℕ) (o : Option Line) → First (λ k. wrong_here i (1 + k) (spot_of i o k)) (refusal_at i o)
columns_first i None = by (nat_le i 2) (nat_le i 3)
  where
    by : (a b : Bool)
        → First (λ k. wrong_here i (1 + k) (cond a (in_column_1 29 k) (cond b (in_column_1 32 k) None))) (cond a (Some (wrong 29 i 1)) (cond b (Some (wrong 32 i 1)) None))
    by true b = in_column_one i 29
    by false true = in_column_one i 32
    by false false = λ k. refl
columns_first i (Some l) = by l.ended (nat_le i 1026)
  where
    by : (a b : Bool) → First (λ k. wrong_here i (1 + k) (cond a (cond b (field_spot (form_of i) (1 + k) (item (fields_of l.text) k)) (in_column_1 32 k)) (in_column_1 29 k)))
        (cond a (cond b (fields_refusal (form_of i) i 1 (fields_of l.text)) (Some (wrong 32 i 1))) (Some (wrong 29 i 1)))
    by false b = in_column_one i 29
    by true false = in_column_one i 32
    by true true = fields_first (form_of i) i 1 (fields_of l.text)

-- ---- the lines of a file
lines_first : (i : ℕ) (ls : List Line) → First (λ j. refusal_at (i + j) (item ls j)) (lines_refusal i ls)
lines_first i [] = first_end _ _ (ap absent (add-zero i)) later
  where
    later : absent i ≡ None → (j : ℕ) → absent (i + suc j) ≡ None
    later e j = grind (arith, nat_tests, e)
lines_first i (l ∷ ls) =
    first_more _ (λ j. refusal_at (i + 1 + j) (item ls j)) (λ j. ap (λ n. refusal_at n (item ls j)) (one_on i j))
    _ _ (ap (λ n. line_refusal n l) (add-zero i)) (lines_first (i + 1) ls)

-- ---- the file
-- what is wrong in a column, and that nothing is
wrong_is : (i c : ℕ) (o : Option ℕ) (x : FileRefusal) → wrong_here i c o ≡ Some x → (number : ℕ) × (o ≡ Some number) × (x ≡ wrong number i c)
wrong_is i c None x e = cc
wrong_is i c (Some number) x e = (number, refl, cc)

none_wrong : (i c : ℕ) (o : Option ℕ) → wrong_here i c o ≡ None → o ≡ None
none_wrong i c None e = refl
none_wrong i c (Some number) e = cc

-- what a refusal, or none, says of the spots
abbrev Judged : List ℕ → Option FileRefusal → Type 0
Judged bytes None = NothingWrong bytes
Judged bytes (Some x) = FirstWrong bytes x

module _ (bytes : List ℕ) where
  in_line : (j : ℕ) (o : Option FileRefusal) → refusal_at (1 + j) (item (lines_of bytes) j) ≡ o → First (λ k. wrong_here (1 + j) (1 + k) (spot bytes j k)) o
  in_line j o e = subst (First (λ k. wrong_here (1 + j) (1 + k) (spot bytes j k))) e (columns_first (1 + j) (item (lines_of bytes) j))

  none_in_line : (j : ℕ) → refusal_at (1 + j) (item (lines_of bytes) j) ≡ None → (k : ℕ) → spot bytes j k ≡ None
  none_in_line j e k = none_wrong (1 + j) (1 + k) (spot bytes j k) (in_line j None e k)

  spots_judged : length bytes ≤ 32768 → (o : Option FileRefusal) → First (λ j. refusal_at (1 + j) (item (lines_of bytes) j)) o → Judged bytes o
  spots_judged short None h = record { short = short; nowhere = λ j. none_in_line j (h j) }
  spots_judged short (Some x) h =
      let j = h.0 in
      let column = in_line j (Some x) h.1 in
      let k = column.0 in
      let what = wrong_is (1 + j) (1 + k) (spot bytes j k) x column.1 in
      inr (
        short,
        record {
          j = j;
          k = k;
          number = what.0;
          is = what.2;
          here = what.1;
          above = λ a b l. none_in_line a (h.2 a l) b;
          before = λ b l. none_wrong (1 + j) (1 + b) (spot bytes j b) (column.2 b l);
        },
      )

  judged : Judged bytes (file_refusal bytes)
  judged =
      cond_both (nat_le (length bytes) 32768) (lines_refusal 1 (lines_of bytes)) (Some (wrong 33 0 0)) (Judged bytes)
      (λ e. spots_judged (leb-true (length bytes) 32768 e) (lines_refusal 1 (lines_of bytes)) (lines_first 1 (lines_of bytes)))
      (λ e. inl (leb-false (length bytes) 32768 e, refl))

  -- ---- there is just one first spot
  some_wrong : (x : FileRefusal) → FirstWrong bytes x → NothingWrong bytes → ⊥
  some_wrong x (inl (long, e)) w = omega (arith, w.short)
  some_wrong x (inr (short, s)) w = cc (w.nowhere s.j s.k)

  same_spot : (x y : FileRefusal) → FirstSpot bytes x → FirstSpot bytes y → x ≡ y
  same_spot x y s t = by_line (cases_order s.j t.j)
    where
      by_column : s.j ≡ t.j → (s.k ≡ t.k) ⊎ ((s.k < t.k) ⊎ (t.k < s.k)) → x ≡ y
      by_column e (inl f) = cc
      by_column e (inr (inl l)) = cc (t.before s.k l)
      by_column e (inr (inr l)) = cc (s.before t.k l)

      by_line : (s.j ≡ t.j) ⊎ ((s.j < t.j) ⊎ (t.j < s.j)) → x ≡ y
      by_line (inl e) = by_column e (cases_order s.k t.k)
      by_line (inr (inl l)) = cc (t.above s.j s.k l)
      by_line (inr (inr l)) = cc (s.above t.j t.k l)

  same_wrong : (x y : FileRefusal) → FirstWrong bytes x → FirstWrong bytes y → x ≡ y
  same_wrong x y (inl a) (inl b) = a.1 ∙ sym b.1
  same_wrong x y (inl a) (inr b) = absurd (omega (arith, a.0, b.0))
  same_wrong x y (inr a) (inl b) = absurd (omega (arith, a.0, b.0))
  same_wrong x y (inr a) (inr b) = same_spot x y a.1 b.1

  refused_from : (x : FileRefusal) → FirstWrong bytes x → (o : Option FileRefusal) → Judged bytes o → o ≡ Some x
  refused_from x w None h = absurd (some_wrong x w h)
  refused_from x w (Some y) h = ap Some (same_wrong y x h w)

  accepted_from : NothingWrong bytes → (o : Option FileRefusal) → Judged bytes o → o ≡ None
  accepted_from w None h = refl
  accepted_from w (Some x) h = absurd (some_wrong x h w)

pub refused_at_first : RefusedAtFirst
refused_at_first bytes x = (λ e. subst (Judged bytes) e (judged bytes), λ w. refused_from bytes x w (file_refusal bytes) (judged bytes))

pub else_nothing_wrong : ElseNothingWrong
else_nothing_wrong bytes = (λ e. subst (Judged bytes) e (judged bytes), λ w. accepted_from bytes w (file_refusal bytes) (judged bytes))
