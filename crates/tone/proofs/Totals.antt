-- Sums over the numbers below a bound: what the laws of a tone give of them.
use Rattle.std.proofs.Common.{◌≡◌, ℕ, suc, ◌+◌, ◌<◌, cond, eqb, sym, refl, ap, ◌∙◌, ap₂, inl, inr, add-zero, add-suc, add-one, arith}
use Rattle.std.proofs.lemmas.Bool.{eq-eqb, ne_eqb, cases_eq, cond-true, cond-false}
use Rattle.tone.specs.Algebra.{Algebra, Lawful}
use Rattle.tone.specs.Sums.{total}
use Rattle.tone.proofs.Groups.{neutral_left, middle_two}

module _ {X : Type 0} (a : Algebra X) where
  pub total-same : (f g : ℕ → X) (n : ℕ) → ((k : ℕ) → k < n → f k ≡ g k) → total a f n ≡ total a g n
  unfolding total
  total-same f g ℕ.zero h = refl
  total-same f g (suc n) h = ap₂ a.sum (total-same f g n (λ k l. h k (omega arith))) (h n (omega arith))

  -- a loop's start and step
  pub total-none : (f : ℕ → X) → total a f 0 ≡ a.zero
  unfolding total
  total-none f = refl

  pub total_more : (f : ℕ → X) (n : ℕ) → total a f (n + 1) ≡ a.sum (total a f n) (f n)
  unfolding total
  total_more f n = rw add-one refl

module _ {X : Type 0} (a : Algebra X) (l : Lawful a) where
  pub total_zero : (f : ℕ → X) (n : ℕ) → ((k : ℕ) → k < n → f k ≡ a.zero) → total a f n ≡ a.zero
  unfolding total
  total_zero f ℕ.zero h = refl
  total_zero f (suc n) h = ap₂ a.sum (total_zero f n (λ k l. h k (omega arith))) (h n (omega arith)) ∙ l.neutral a.zero

  pub total-sum : (f g : ℕ → X) (n : ℕ) → total a (λ k. a.sum (f k) (g k)) n ≡ a.sum (total a f n) (total a g n)
  unfolding total
  total-sum f g ℕ.zero = sym (l.neutral a.zero)
  total-sum f g (suc n) = ap (λ x. a.sum x (a.sum (f n) (g n))) (total-sum f g n) ∙ middle_two a l (total a f n) (total a g n) (f n) (g n)

  pub total_exchange : (f : ℕ → ℕ → X) (n m : ℕ) → total a (λ k. total a (f k) m) n ≡ total a (λ i. total a (λ k. f k i) n) m
  unfolding total
  total_exchange f ℕ.zero m = sym (total_zero (λ i. a.zero) m (λ k h. refl))
  total_exchange f (suc n) m = ap (λ x. a.sum x (total a (f n) m)) (total_exchange f n m) ∙ sym (total-sum (λ i. total a (λ k. f k i) n) (f n) m)

  -- one term that is not zero
  pub total_single : (i : ℕ) (x : ℕ → X) (n : ℕ) → i < n → total a (λ k. cond (eqb k i) (x k) a.zero) n ≡ x i
  unfolding total
  total_single i x ℕ.zero h = absurd (omega arith)
  total_single i x (suc n) h = elim (cases_eq n i) [
    | inl e ↦ ap₂ a.sum
        (total_zero _ n (λ k l. cond-false (eqb k i) (x k) a.zero (ne_eqb k i (λ q. omega arith))))
        (cond-true (eqb n i) (x n) a.zero (eq-eqb n i e) ∙ ap x e)
        ∙ neutral_left a l (x i)
    | inr ne ↦ ap₂ a.sum (total_single i x n (omega arith)) (cond-false (eqb n i) (x n) a.zero (ne_eqb n i ne))
        ∙ l.neutral (x i)
  ]

  -- the first m terms, and then the next n
  pub total_split : (f : ℕ → X) (m n : ℕ) → total a f (m + n) ≡ a.sum (total a f m) (total a (λ k. f (m + k)) n)
  unfolding total
  total_split f m ℕ.zero = rw add-zero (sym (l.neutral (total a f m)))
  total_split f m (suc n) = rw add-suc (ap (λ x. a.sum x (f (m + n))) (total_split f m n) ∙ l.assoc _ _ _)
