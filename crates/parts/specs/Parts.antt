-- The parts of a list: runs of rows that are alike.
use Rattle.std.specs.Prelude.{ℕ, suc, ◌+◌, ◌-◌, Bool, cond, ◌&&◌, List, [], ◌∷◌, length, take, drop, ◌==◌, nat_le, nat_lt}
use Rattle.design.specs.declared.row.Row.{Row}

-- two rows of one stratum; two rows of one stratum and one cluster
abbrev pub same_stratum : Row → Row → Bool
same_stratum q r = r.stratum == q.stratum

abbrev pub same_cluster : Row → Row → Bool
same_cluster q r = r.stratum == q.stratum && r.cluster == q.cluster

-- the rows, counted from i, that are not alike to the row before them, the first of which is q; and at last the row past the list
unfoldable pub starts : (Row → Row → Bool) → ℕ → Row → List Row → List ℕ
starts alike i q [] = i ∷ []
starts alike i q (r ∷ rs) = cond (alike q r) (starts alike (suc i) r rs) (i ∷ starts alike (suc i) r rs)

-- the first rows of all parts, and at last the row past the list
unfoldable pub bounds : (Row → Row → Bool) → List Row → List ℕ
bounds alike [] = []
bounds alike (r ∷ rs) = 0 ∷ starts alike 1 r rs

-- a part of a list: its first row, its rows, and the sample size for it
pub record Part : Type 0 where
  pub at : ℕ
  pub rows : List Row
  pub sample : ℕ

-- the parts of a list from the row a on that end before the given rows; the first of them is the part j, and the part i has the sample size `sample i`
abbrev pub cuts : (ℕ → ℕ) → List Row → ℕ → ℕ → List ℕ → List Part
cuts sample list j a [] = []
cuts sample list j a (b ∷ bs) = record { at = a; rows = take (b - a) (drop a list); sample = sample j } ∷ cuts sample list (suc j) b bs

abbrev pub cut : (ℕ → ℕ) → List Row → List ℕ → List Part
cut sample list [] = []
cut sample list (a ∷ bs) = cuts sample list 0 a bs

abbrev pub parts : (Row → Row → Bool) → (ℕ → ℕ) → List Row → List Part
parts alike sample list = cut sample list (bounds alike list)

-- the part holds the unit k of the list
abbrev pub holds : Part → ℕ → Bool
holds p k = nat_le p.at k && nat_lt k (p.at + length p.rows)

-- the number of the part that holds k, where the first of ps is the part j
abbrev pub place_of : ℕ → List Part → ℕ → ℕ
place_of j [] k = j
place_of j (p ∷ ps) k = cond (holds p k) j (place_of (suc j) ps k)
