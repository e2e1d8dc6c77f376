-- How many elements pass a test, as a sum: one for each that does.
use Rattle.std.proofs.Common.{◌≡◌, ℕ, ◌+◌, ◌≤◌, Bool, true, false, cond, List, [], ◌∷◌, length, filter, refl, ◌∙◌, arith}
use Rattle.std.specs.List.{sum_by}
use Rattle.std.proofs.lemmas.List.Sums.{sum_by-cons}

abbrev pub one_if : {X : Type 0} → (X → Bool) → X → ℕ
one_if p x = cond (p x) 1 0

pub counted : {X : Type 0} (p : X → Bool) (xs : List X) → sum_by (one_if p) xs ≡ length (filter p xs)
counted p [] = refl
counted p (x ∷ xs) = sum_by-cons (one_if p) x xs ∙ step (p x) (counted p xs)
  where
    step : (t : Bool) → sum_by (one_if p) xs ≡ length (filter p xs) → cond t 1 0 + sum_by (one_if p) xs ≡ length (cond t (x ∷ filter p xs) (filter p xs))
    step true e = omega (arith, e)
    step false e = omega (arith, e)

pub counted_most : {X : Type 0} (p : X → Bool) (xs : List X) → length (filter p xs) ≤ length xs
counted_most p [] = omega arith
counted_most p (x ∷ xs) = step (p x) (counted_most p xs)
  where
    step : (t : Bool) → length (filter p xs) ≤ length xs → length (cond t (x ∷ filter p xs) (filter p xs)) ≤ length (x ∷ xs)
    step true e = omega (arith, e)
    step false e = omega (arith, e)
