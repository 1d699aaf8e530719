-- The list of outcomes goes road by road.
use Rattle.std.proofs.Common.{◌≡◌, ◌≢◌, ℕ, zero, suc, ◌+◌, ◌-◌, ◌*◌, ◌<◌, List, [], ◌∷◌, ◌++◌, map, length, get_or, refl, ap, ◌∙◌, subst, inl, inr, arith}
use native.Mathlib.Decide.{ℕ_discrete}
use Rattle.std.specs.List.{All, AllZip, AllPairs, Contains}
use Rattle.std.proofs.lemmas.List.{length-append, length-map, get_or-map, get_or_append_left, get_or-append_right}
use Rattle.std.proofs.lemmas.List.Elements.{All-nil, All-append, All-map, All-weaker, Contains-append_left, Contains-append_right}
use Rattle.std.proofs.lemmas.Bool.{cases_lt}
use Rattle.outcomes.specs.Sums.{others}
use Rattle.outcomes.specs.Trees.{Tree, finished, branching, weight}
use Rattle.outcomes.specs.Listing.{Weighed, heavier, joined, outcomes, Leads, LeadsTo, weight_at, roads}

-- ---- place by place
zip_append : {X Y : Type 0} (R : X → Y → Type 0) (xs us : List X) (ys vs : List Y) → AllZip R xs ys → AllZip R us vs → AllZip R (xs ++ us) (ys ++ vs)
zip_append R [] us [] vs h k = k
zip_append R [] us (y ∷ ys) vs h k = absurd h
zip_append R (x ∷ xs) us [] vs h k = absurd h
zip_append R (x ∷ xs) us (y ∷ ys) vs h k = (h.0, zip_append R xs us ys vs h.1 k)

zip_joined : {X Y : Type 0} (R : X → Y → Type 0) (n : ℕ) (f : ℕ → List X) (g : ℕ → List Y)
    → ((d : ℕ) → d < n → AllZip R (f d) (g d)) → AllZip R (joined n f) (joined n g)
zip_joined R zero f g h = tt
zip_joined R (suc n) f g h =
    zip_append R (joined n f) (f n) (joined n g) (g n) (zip_joined R n f g (λ d l. h d (omega arith))) (h n (omega arith))

-- a throw before each road, and each weight times those of the other subtrees
one_up : {A : Type 0} (m : ℕ) (sub : ℕ → Tree A) (d : ℕ) → d < m → (rs : List (List ℕ)) (os : List (Weighed A))
    → AllZip (LeadsTo (sub d)) rs os
    → AllZip (LeadsTo (branching m sub)) (map (λ ds. d ∷ ds) rs) (heavier (others m (λ e. weight (sub e)) d) os)
unfolding weight_at
one_up m sub d l [] [] h = tt
one_up m sub d l [] (o ∷ os) h = absurd h
one_up m sub d l (r ∷ rs) [] h = absurd h
one_up m sub d l (r ∷ rs) (o ∷ os) h =
    (((l, h.0.0), ap (λ x. x * others m (λ e. weight (sub e)) d) h.0.1), one_up m sub d l rs os h.1)

pub in_step : {A : Type 0} (t : Tree A) → AllZip (LeadsTo t) (roads t) (outcomes t)
unfolding roads outcomes weight_at
in_step (finished a) = ((refl, refl), tt)
in_step (branching m sub) =
    zip_joined (LeadsTo (branching m sub)) m (λ d. map (λ ds. d ∷ ds) (roads (sub d)))
    (λ d. heavier (others m (λ e. weight (sub e)) d) (outcomes (sub d)))
    (λ d l. one_up m sub d l (roads (sub d)) (outcomes (sub d)) (in_step (sub d)))

-- ---- each road
contains_joined : {X : Type 0} (n : ℕ) (f : ℕ → List X) (d : ℕ) (x : X) → d < n → Contains (f d) x → Contains (joined n f) x
contains_joined zero f d x l h = absurd (omega arith)
contains_joined (suc n) f d x l h = elim (ℕ_discrete d n) [
  | yes e ↦ Contains-append_right (joined n f) (f n) x (subst (λ k. Contains (f k) x) e h)
  | no other ↦ Contains-append_left (joined n f) (f n) x (contains_joined n f d x (omega arith) h)
]

contains_map : {X Y : Type 0} (f : X → Y) (xs : List X) (x : X) → Contains xs x → Contains (map f xs) (f x)
contains_map f xs x h = (h.0, omega (arith, h.1, length-map xs f), get_or-map f xs h.0 x (f x) h.1 ∙ ap f h.2)

pub each : {A : Type 0} (t : Tree A) (ds : List ℕ) (a : A) → Leads t ds a → Contains (roads t) ds
unfolding roads
each (finished b) [] a h = (0, omega arith, refl)
each (finished b) (d ∷ ds) a h = absurd h
each (branching m sub) [] a h = absurd h
each (branching m sub) (d ∷ ds) a h =
    contains_joined m (λ e. map (λ es. e ∷ es) (roads (sub e))) d (d ∷ ds) h.0
    (contains_map (λ es. d ∷ es) (roads (sub d)) ds (each (sub d) ds a h.1))

-- ---- none twice
pairs_append : {X : Type 0} (R : X → X → Type 0) (xs ys : List X) → AllPairs R xs → AllPairs R ys
    → ((i j : ℕ) (d : X) → i < length xs → j < length ys → R (get_or xs i d) (get_or ys j d)) → AllPairs R (xs ++ ys)
pairs_append R xs ys p q r i j d l k =
    let n : ℕ = length xs in
    let within : j < n + length ys = omega (arith, k, length-append xs ys) in
    elim (cases_lt j n) [
      | inl jx ↦ rw (get_or_append_left xs ys d i (omega arith), get_or_append_left xs ys d j jx) (p i j d l jx)
      | inr jy ↦ elim (cases_lt i n) [
        | inl ix ↦ rw (get_or_append_left xs ys d i ix, get_or-append_right xs ys n j d refl jy) (r i (j - n) d ix (omega arith))
        | inr iy ↦ rw (get_or-append_right xs ys n i d refl iy, get_or-append_right xs ys n j d refl jy) (q (i - n) (j - n) d (omega arith) (omega arith))
      ]
    ]

abbrev NoneTwice : List (List ℕ) → Type 0
NoneTwice = AllPairs (λ ds es. ds ≢ es)

none_twice_up : (d : ℕ) (rs : List (List ℕ)) → NoneTwice rs → NoneTwice (map (λ ds. d ∷ ds) rs)
none_twice_up d rs p i j e l k =
    let within : j < length rs = omega (arith, k, length-map rs (λ (ds : List ℕ). d ∷ ds)) in
    let one : get_or (map (λ ds. d ∷ ds) rs) i e ≡ d ∷ get_or rs i [] = get_or-map (λ ds. d ∷ ds) rs i [] e (omega arith) in
    let other : get_or (map (λ ds. d ∷ ds) rs) j e ≡ d ∷ get_or rs j [] = get_or-map (λ ds. d ∷ ds) rs j [] e within in
    λ same. p i j [] l within cc

-- the first throw of a road
abbrev first : List ℕ → ℕ
first [] = 0
first (d ∷ ds) = d

module _ (f : ℕ → List (List ℕ)) where
  first_below : (n : ℕ) → ((d : ℕ) → d < n → All (λ ds. first ds ≡ d) (f d)) → All (λ ds. first ds < n) (joined n f)
  first_below zero h = All-nil (λ ds. first ds < 0)
  first_below (suc n) h =
      All-append (λ ds. first ds < suc n) (joined n f) (f n)
      (All-weaker (λ ds. first ds < n) (λ ds. first ds < suc n) (λ ds l. omega arith) (joined n f) (first_below n (λ d l. h d (omega arith))))
      (All-weaker (λ ds. first ds ≡ n) (λ ds. first ds < suc n) (λ ds e. omega arith) (f n) (h n (omega arith)))

  none_twice_joined : (n : ℕ) → ((d : ℕ) → d < n → NoneTwice (f d)) → ((d : ℕ) → d < n → All (λ ds. first ds ≡ d) (f d)) → NoneTwice (joined n f)
  none_twice_joined zero p h = λ i j d l k. absurd (omega arith)
  none_twice_joined (suc n) p h =
      let below : All (λ ds. first ds < n) (joined n f) = first_below n (λ d l. h d (omega arith)) in
      pairs_append (λ ds es. ds ≢ es) (joined n f) (f n) (none_twice_joined n (λ d l. p d (omega arith)) (λ d l. h d (omega arith))) (p n (omega arith))
      (λ i j e li lj same. absurd (omega (arith, below i e li, h n (omega arith) j e lj, ap first same)))

pub none_twice : {A : Type 0} (t : Tree A) → NoneTwice (roads t)
unfolding roads
none_twice (finished a) = λ i j d l k. absurd (omega arith)
none_twice (branching m sub) =
    none_twice_joined (λ d. map (λ ds. d ∷ ds) (roads (sub d))) m
    (λ d l. none_twice_up d (roads (sub d)) (none_twice (sub d)))
    (λ d l. All-map (λ ds. first ds ≡ d) (λ ds. d ∷ ds) (roads (sub d)) (λ k e j. refl))
