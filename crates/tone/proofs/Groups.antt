-- A tone's laws make it a commutative group: what follows from them for two, three and many tones.
use Rattle.std.proofs.Common.{◌≡◌, List, [], ◌∷◌, ◌++◌, fold, sym, refl, ap, ◌∙◌}
use Rattle.tone.specs.Algebra.{Algebra, Lawful}
use Rattle.tone.specs.Laws.{Cancels, InAnyOrder, Joins}
use Rattle.tone.specs.Sums.{sum_of, Permutation}
use Rattle.tone.specs.Sums.Permutation.{none, keep, swap, chain}

module _ {X : Type 0} (a : Algebra X) (l : Lawful a) where
  pub neutral_left : (x : X) → a.sum a.zero x ≡ x
  neutral_left x = l.comm a.zero x ∙ l.neutral x

  -- (x + y) + z = (x + z) + y
  pub last_two : (x y z : X) → a.sum (a.sum x y) z ≡ a.sum (a.sum x z) y
  last_two x y z = l.assoc x y z ∙ ap (a.sum x) (l.comm y z) ∙ sym (l.assoc x z y)

  -- (x + y) + (z + w) = (x + z) + (y + w)
  pub middle_two : (x y z w : X) → a.sum (a.sum x y) (a.sum z w) ≡ a.sum (a.sum x z) (a.sum y w)
  middle_two x y z w = sym (l.assoc (a.sum x y) z w) ∙ ap (λ s. a.sum s w) (last_two x y z) ∙ l.assoc (a.sum x z) y w

  opposite : X → X
  opposite x = a.difference a.zero x

  with_opposite : (x : X) → a.sum x (opposite x) ≡ a.zero
  unfolding opposite
  with_opposite x = l.comm x (a.difference a.zero x) ∙ l.back a.zero x

  undo : (x z : X) → a.sum (a.sum x z) (opposite z) ≡ x
  undo x z = l.assoc x z (opposite z) ∙ ap (a.sum x) (with_opposite z) ∙ l.neutral x

  pub cancel : (x y z : X) → a.sum x z ≡ a.sum y z → x ≡ y
  cancel x y z e = sym (undo x z) ∙ ap (λ s. a.sum s (opposite z)) e ∙ undo y z

  -- (x + y) - y = x
  pub forth : (x y : X) → a.difference (a.sum x y) y ≡ x
  forth x y = cancel _ _ y (l.back (a.sum x y) y)

  pub cancels : Cancels a
  cancels = record { cancel = cancel; forth = forth }

  -- a sum over a list, from any start
  pub sum-start : (x : X) (xs : List X) → fold a.sum x xs ≡ a.sum x (sum_of a xs)
  sum-start x [] = sym (l.neutral x)
  sum-start x (y ∷ ys) = sum-start (a.sum x y) ys ∙ l.assoc x y (sum_of a ys) ∙ ap (a.sum x) (sym (sum_cons y ys (sum-start (a.sum a.zero y) ys)))
    where
      sum_cons : (y : X) (ys : List X) → fold a.sum (a.sum a.zero y) ys ≡ a.sum (a.sum a.zero y) (sum_of a ys) → sum_of a (y ∷ ys) ≡ a.sum y (sum_of a ys)
      sum_cons y ys e = e ∙ ap (λ s. a.sum s (sum_of a ys)) (neutral_left y)

  pub sum_more : (x : X) (xs : List X) → sum_of a (x ∷ xs) ≡ a.sum x (sum_of a xs)
  sum_more x xs = sum-start (a.sum a.zero x) xs ∙ ap (λ s. a.sum s (sum_of a xs)) (neutral_left x)

  pub sum-append : (xs ys : List X) → sum_of a (xs ++ ys) ≡ a.sum (sum_of a xs) (sum_of a ys)
  sum-append [] ys = sym (neutral_left (sum_of a ys))
  sum-append (x ∷ xs) ys = sum_more x (xs ++ ys) ∙ ap (a.sum x) (sum-append xs ys) ∙ sym (l.assoc x (sum_of a xs) (sum_of a ys)) ∙ ap (λ s. a.sum s (sum_of a ys)) (sym (sum_more x xs))

  pub joins : Joins a
  joins = record { start = sum-start; append = sum-append }

  sum_permuted : {xs ys : List X} → Permutation xs ys → sum_of a xs ≡ sum_of a ys
  sum_permuted none = refl
  sum_permuted (keep x {xs} {ys} p) = sum_more x xs ∙ ap (a.sum x) (sum_permuted p) ∙ sym (sum_more x ys)
  sum_permuted (swap x y xs) = ap (λ s. fold a.sum s xs) (last_two a.zero x y)
  sum_permuted (chain p q) = sum_permuted p ∙ sum_permuted q

  pub in_any_order : InAnyOrder a
  in_any_order xs ys = sum_permuted
