-- The amounts satisfy their recursion, and nothing else does.
use Rattle.std.proofs.Common.{◌≡◌, ℕ, suc, ◌<◌, Some, None, Option, refl, ap, ◌∙◌, arith}
use Rattle.tone.specs.Algebra.{Algebra}
use Rattle.tone.proofs.Totals.{total-same}
use Rattle.grid.specs.Directions.{opposite}
use Rattle.diffusion.specs.Neighbourhoods.{Neighbourhood, Laws, lower}
use Rattle.diffusion.specs.Draft.{Setting, at, gather, sends, left, due_amount, amount_by, amount}
use Rattle.diffusion.proofs.Neighbours.{lower_near, lower-within}

module _ {T : Type 0} (tone : Algebra T) where
  pub at_same : (o : Option ℕ) (f g : ℕ → T) → ((t : ℕ) → o ≡ Some t → f t ≡ g t) → at tone o f ≡ at tone o g
  at_same None f g h = refl
  at_same (Some t) f g h = h t refl

module _ {T : Type 0} (tone : Algebra T) (squares : Neighbourhood) where
  pub gather-same : (p q : ℕ → ℕ → T) (s : ℕ)
      → ((d t : ℕ) → d < 8 → lower squares s d ≡ Some t → p t (opposite d) ≡ q t (opposite d)) → gather tone squares p s ≡ gather tone squares q s
  unfolding gather
  gather-same p q s h = total-same tone _ _ 8 (λ d l. at_same tone (lower squares s d) _ _ (λ t e. h d t l e))

module _ {T : Type 0} (j : Setting T) where
  -- enough fuel
  steady : (n m s : ℕ) → j.squares.rank s < n → j.squares.rank s < m → amount_by j n s ≡ amount_by j m s
  unfolding amount_by
  steady ℕ.zero m s h k = absurd (omega arith)
  steady (suc n) ℕ.zero s h k = absurd (omega arith)
  steady (suc n) (suc m) s h k =
      ap (j.algebra.sum (j.drawing s)) (gather-same j.algebra j.squares _ _ s (λ d t l e.
      let r = (lower_near j.squares s d t e).1 in
      ap (λ x. sends j.algebra j.squares t (left j x) (opposite d)) (steady n m t (omega arith) (omega arith))))

  pub recursion : (s : ℕ) → amount j s ≡ due_amount j (amount j) s
  unfolding amount amount_by
  recursion s =
      ap (j.algebra.sum (j.drawing s)) (gather-same j.algebra j.squares _ _ s (λ d t l e.
      let r = (lower_near j.squares s d t e).1 in
      ap (λ x. sends j.algebra j.squares t (left j x) (opposite d)) (steady (j.squares.rank s) (suc (j.squares.rank t)) t (omega arith) (omega arith))))

  -- what satisfies the recursion at the squares of the drawing is the amount there
  pub unique : Laws j.squares → (f : ℕ → T) → ((s : ℕ) → s < j.squares.count → f s ≡ due_amount j f s)
      → (s : ℕ) → s < j.squares.count → f s ≡ amount j s
  unfolding amount amount_by
  unique laws f eqn s ls = go (suc (j.squares.rank s)) s (omega arith) ls
    where
      go : (n s : ℕ) → j.squares.rank s < n → s < j.squares.count → f s ≡ amount_by j n s
      go ℕ.zero s h ls = absurd (omega arith)
      go (suc n) s h ls = eqn s ls ∙ ap (j.algebra.sum (j.drawing s)) (gather-same j.algebra j.squares _ _ s (λ d t l e.
          let r = (lower_near j.squares s d t e).1 in
          ap (λ x. sends j.algebra j.squares t (left j x) (opposite d)) (go n t (omega arith) (lower-within j.squares laws s d t ls l e))))
