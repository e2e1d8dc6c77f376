-- Kinds taken direction by direction: the start and the step of what is added up over them.
use Rattle.std.proofs.Common.{◌≡◌, ℕ, zero, suc, ◌+◌, ◌*◌, ◌≤◌, ◌<◌, List, [], ◌∷◌, length, get_or, Option, None, Some, sym, refl, ap, ◌∙◌, subst, add-zero, add-one, arith}
use Rattle.std.specs.Bool.{⊤}
use Rattle.std.proofs.lemmas.List.Sums.{sum_by-cons}
use Rattle.std.proofs.lemmas.Bool.Decides.{nat_tests}
use Rattle.std.specs.List.{fold, sum_by}
use Rattle.grid.specs.Directions.{number_of}
use Rattle.grid.specs.declared.direction.Direction.{Direction}
use Rattle.job.specs.Patterns.{kind_weight, kinds_weight, kind_last, kinds_last, last_number}
use Rattle.job.specs.declared.kind.Kind.{Kind}
use Rattle.job.specs.declared.kind.Kind.TheVariants.{Neither, Lower, Higher}
use Rattle.job.proofs.Eight.{directions}

pub weight-none : (ks : List Kind) → kinds_weight ks 0 ≡ 0
unfolding kinds_weight
weight-none ks = refl

pub weight_more : (ks : List Kind) (n : ℕ) → kinds_weight ks (n + 1) ≡ kinds_weight ks n + kind_weight (get_or ks n Neither) n
unfolding kinds_weight
weight_more ks n = rw add-one

pub last_none : (ks : List Kind) → kinds_last ks 0 ≡ 8
unfolding kinds_last
last_none ks = refl

pub last_more : (ks : List Kind) (n : ℕ) → kinds_last ks (n + 1) ≡ kind_last (get_or ks n Neither) n (kinds_last ks n)
unfolding kinds_last
last_more ks n = rw add-one

weight_small : (k : Kind) (n : ℕ) → kind_weight k n ≤ 2
weight_small Neither n = omega arith
weight_small Lower n = omega arith
weight_small Higher n = grind (arith, nat_tests)

-- the directions come one after another in their order, from the one numbered n
abbrev InOrder : ℕ → List Direction → Type 0
InOrder n [] = ⊤
InOrder n (x ∷ xs) = (number_of x ≡ n) × InOrder (suc n) xs

-- the weights are a sum over the directions, where those with no higher neighbour weigh nothing, and it fits a byte
module _ (ks : List Kind) where
  abbrev pub weighs : Direction → ℕ
  weighs direction = kind_weight (get_or ks (number_of direction) Neither) (number_of direction)

  -- from the direction numbered n on
  weighed_from : (n : ℕ) (xs : List Direction) → InOrder n xs → kinds_weight ks n + sum_by weighs xs ≡ kinds_weight ks (n + length xs)
  weighed_from n [] order = add-zero (kinds_weight ks n) ∙ ap (kinds_weight ks) (sym (add-zero n))
  weighed_from n (x ∷ xs) order =
      let first = sum_by-cons weighs x xs ∙ ap (λ d. kind_weight (get_or ks d Neither) d + sum_by weighs xs) order.0 in
      let rest = weighed_from (n + 1) xs (subst (λ m. InOrder m xs) (sym (add-one n)) order.1) in
      let far : n + 1 + length xs ≡ n + suc (length xs) = omega arith in
      omega (arith, first, weight_more ks n, rest) ∙ ap (kinds_weight ks) far

  pub weighed : sum_by weighs directions ≡ kinds_weight ks 8
  weighed = omega (arith, weight-none ks, weighed_from 0 directions (refl, (refl, (refl, (refl, (refl, (refl, (refl, (refl, tt)))))))))

  weights_small : (n : ℕ) → kinds_weight ks n ≤ 2 * n
  weights_small zero = omega (arith, weight-none ks)
  weights_small (suc n) =
      let next = ap (kinds_weight ks) (add-one n) in
      omega (arith, next, weight_more ks n, weights_small n, weight_small (get_or ks n Neither) n)

  pub weighed_small : sum_by weighs directions < 256
  weighed_small = omega (arith, weighed, weights_small 8)

-- the last is what each direction with a higher neighbour takes the place of
abbrev pub later : Kind → Option Direction → Direction → Option Direction
later Neither before direction = before
later Lower before direction = before
later Higher before direction = Some direction

module _ (ks : List Kind) where
  abbrev pub goes_on : Option Direction → Direction → Option Direction
  goes_on before direction = later (get_or ks (number_of direction) Neither) before direction

  told : (k : Kind) (before : Option Direction) (direction : Direction) → last_number (later k before direction) ≡ kind_last k (number_of direction) (last_number before)
  told Neither before direction = refl
  told Lower before direction = refl
  told Higher before direction = refl

  -- from the direction numbered n on
  last_from : (n : ℕ) (xs : List Direction) → InOrder n xs → (before : Option Direction) → last_number before ≡ kinds_last ks n → last_number (fold goes_on before xs) ≡ kinds_last ks (n + length xs)
  last_from n [] order before so = so ∙ ap (kinds_last ks) (sym (add-zero n))
  last_from n (x ∷ xs) order before so =
      let here = told (get_or ks (number_of x) Neither) before x ∙ ap (λ d. kind_last (get_or ks d Neither) d (last_number before)) order.0 ∙ ap (kind_last (get_or ks n Neither) n) so ∙ sym (last_more ks n) in
      let far : n + 1 + length xs ≡ n + suc (length xs) = omega arith in
      last_from (n + 1) xs (subst (λ m. InOrder m xs) (sym (add-one n)) order.1) (goes_on before x) here ∙ ap (kinds_last ks) far

  pub last_told : last_number (fold goes_on None directions) ≡ kinds_last ks 8
  last_told = last_from 0 directions (refl, (refl, (refl, (refl, (refl, (refl, (refl, (refl, tt)))))))) None (sym (last_none ks))
