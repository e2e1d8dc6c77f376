-- A total that is folded over the elements of a list that pass a test.
use Rattle.std.proofs.Common.{◌≡◌, ℕ, suc, ◌+◌, ◌<◌, Bool, true, false, cond, List, [], ◌∷◌, length, get_or, filter, sym, refl, ap, ◌∙◌, add-zero, inl, inr, arith}
use Rattle.std.specs.List.{fold}
use Rattle.std.proofs.lemmas.Bool.{cases_Bool}
use Rattle.tone.specs.Algebra.{Algebra, Lawful}
use Rattle.tone.specs.Sums.{total}
use Rattle.job.proofs.Terms.{term_added, term_skipped}
use Rattle.tone.proofs.Totals.{total-none}

-- a fold that goes on only where a test is passed is one over what passes it
module _ {X T : Type 0} (test : X → Bool) (g : T → X → T) where
  abbrev passing : T → X → T
  passing s x = cond (test x) (g s x) s

  pub fold_passing : (xs : List X) (z : T) → fold passing z xs ≡ fold g z (filter test xs)
  fold_passing [] z = refl
  fold_passing (x ∷ xs) z = step (test x) (fold_passing xs)
    where
      step : (t : Bool) → ((y : T) → fold passing y xs ≡ fold g y (filter test xs)) → fold passing (cond t (g z x) z) xs ≡ fold g z (cond t (x ∷ filter test xs) (filter test xs))
      step true rest = rest (g z x)
      step false rest = rest z

module _ {X T : Type 0} (a : Algebra T) (l : Lawful a) (test : X → Bool) (value : X → T) (f : ℕ → T) (d : X) where
  -- the term at n is that of x, or zero where x fails the test
  one_more : (n : ℕ) (x : X) → f n ≡ cond (test x) (value x) a.zero → (xs : List X)
      → fold (λ s y. a.sum s (value y)) (total a f n) (filter test (x ∷ xs)) ≡ fold (λ s y. a.sum s (value y)) (total a f (n + 1)) (filter test xs)
  one_more n x is xs = elim (cases_Bool (test x)) [
    | inl e ↦ ap (λ b. fold (λ s y. a.sum s (value y)) (total a f n) (cond b (x ∷ filter test xs) (filter test xs))) e
        ∙ ap (λ s. fold (λ s y. a.sum s (value y)) s (filter test xs))
        (term_added a f n (total a f n) refl (value x) _ (sym (is ∙ ap (λ b. cond b (value x) a.zero) e)) refl)
    | inr e ↦ ap (λ b. fold (λ s y. a.sum s (value y)) (total a f n) (cond b (x ∷ filter test xs) (filter test xs))) e
        ∙ ap (λ s. fold (λ s y. a.sum s (value y)) s (filter test xs))
        (term_skipped a f n (total a f n) refl l (is ∙ ap (λ b. cond b (value x) a.zero) e))
  ]

  -- from the term at n on
  folded_from : (n : ℕ) (xs : List X) → ((k : ℕ) → k < length xs → f (n + k) ≡ cond (test (get_or xs k d)) (value (get_or xs k d)) a.zero)
      → fold (λ s y. a.sum s (value y)) (total a f n) (filter test xs) ≡ total a f (n + length xs)
  folded_from n [] h = ap (total a f) (sym (add-zero n))
  folded_from n (x ∷ xs) h =
      let here : n + 0 ≡ n = add-zero n in
      let rest : n + 1 + length xs ≡ n + suc (length xs) = omega arith in
      one_more n x (ap f (sym here) ∙ h 0 (omega arith)) xs
      ∙ folded_from (n + 1) xs (λ k low. let next : n + 1 + k ≡ n + suc k = omega arith in ap f next ∙ h (suc k) (omega arith))
      ∙ ap (total a f) rest

  pub folded : (xs : List X) → ((k : ℕ) → k < length xs → f k ≡ cond (test (get_or xs k d)) (value (get_or xs k d)) a.zero)
      → fold (λ s y. a.sum s (value y)) a.zero (filter test xs) ≡ total a f (length xs)
  folded xs h =
      ap (λ s. fold (λ s y. a.sum s (value y)) s (filter test xs)) (sym (total-none a f))
      ∙ folded_from 0 xs (λ k low. let at : 0 + k ≡ k = omega arith in ap f at ∙ h k low)
      ∙ ap (total a f) (omega arith)
