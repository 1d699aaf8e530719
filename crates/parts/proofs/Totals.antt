-- Sums over a list, by its items and by their numbers.
use Rattle.std.proofs.Common.{◌≡◌, ℕ, zero, suc, ◌+◌, ◌≤◌, List, length, get_or, take, sym, refl, ap, ◌∙◌, add-one, arith}
use Rattle.std.specs.List.{sum_by}
use Rattle.std.proofs.lemmas.List.{take_all}
use Rattle.std.proofs.lemmas.List.Sums.{sum_by_more}
use Rattle.outcomes.specs.Sums.{sum}

pub sum_listed : {X : Type 0} (f : X → ℕ) (xs : List X) (d : X) → sum_by f xs ≡ sum (length xs) (λ k. f (get_or xs k d))
sum_listed {X} f xs d = ap (λ (ys : List X). sum_by f ys) (sym (take_all (length xs) xs (omega arith))) ∙ by (length xs) (omega arith)
  where
    by : (n : ℕ) → n ≤ length xs → sum_by f (take n xs) ≡ sum n (λ k. f (get_or xs k d))
    by zero l = refl
    by (suc n) l =
        ap (λ m. sum_by f (take m xs)) (sym (add-one n)) ∙ sum_by_more f xs n d (omega arith)
        ∙ ap (λ s. s + f (get_or xs n d)) (by n (omega arith))
