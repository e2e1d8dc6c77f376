-- Sums of many tones, and lists that are permutations of one another.
use Rattle.std.specs.Prelude.{ℕ, suc, List, [], ◌∷◌, fold}
use Rattle.tone.specs.Algebra.{Algebra}

-- the sum of a list, begun at zero and taken from the left
abbrev pub sum_of : {X : Type 0} → Algebra X → List X → X
sum_of a xs = fold a.sum a.zero xs

-- f 0 + f 1 + .. + f (n - 1)
unfoldable pub total : {X : Type 0} → Algebra X → (ℕ → X) → ℕ → X
total a f ℕ.zero = a.zero
total a f (suc n) = a.sum (total a f n) (f n)

-- the same elements in another order
pub data Permutation {X : Type 0} : List X → List X → Type 0 where
  none : Permutation [] []
  keep : (x : X) {xs ys : List X} → Permutation xs ys → Permutation (x ∷ xs) (x ∷ ys)
  swap : (x y : X) (xs : List X) → Permutation (x ∷ (y ∷ xs)) (y ∷ (x ∷ xs))
  chain : {xs ys zs : List X} → Permutation xs ys → Permutation ys zs → Permutation xs zs
