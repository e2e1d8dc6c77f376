-- Numbers of a list that all lie below a bound.
use Rattle.std.proofs.Common.{◌≡◌, ℕ, zero, suc, ◌+◌, ◌<◌, ◌≤◌, Bool, cond, List, [], ◌∷◌, ◌++◌, length, get_or, filter, Option, Some, sym, refl, ap, ◌∙◌, subst, inl, inr, arith}
use Rattle.std.specs.Bool.{⊤}
use Rattle.std.specs.Fn.{Called}
use Rattle.std.specs.Iterator.{Drains, CallableAtEachTurn}
use Rattle.std.specs.List.{range_with_len, fold, FoldsTo}
use Rattle.std.proofs.lemmas.Bool.{cases_Bool}
use Rattle.std.proofs.lemmas.Fn.{fold_over, serves_by}
use Rattle.std.proofs.lemmas.Iterator.{YieldsList}
use Rattle.std.proofs.lemmas.Iterator.Consumers.{YieldsList-turn}
use Rattle.std.proofs.lemmas.List.Sums.{fold_push}
use denote.Param.Members.{Mut}

abbrev pub Below : ℕ → List ℕ → Type 0
Below n [] = ⊤
Below n (x ∷ xs) = (x < n) × Below n xs

pub below_push : (n : ℕ) (xs : List ℕ) (x : ℕ) → Below n (xs ++ x ∷ []) → Below n xs × (x < n)
below_push n [] x h = (tt, h.0)
below_push n (y ∷ ys) x h = let rest = below_push n ys x h.1 in ((h.0, rest.0), rest.1)

pub below_get : (n : ℕ) (xs : List ℕ) (k d : ℕ) → Below n xs → k < length xs → get_or xs k d < n
below_get n [] k d h low = absurd (omega arith)
below_get n (x ∷ xs) zero d h low = h.0
below_get n (x ∷ xs) (suc k) d h low = below_get n xs k d h.1 (omega arith)

pub below_range : (n a m : ℕ) → a + m ≤ n → Below n (range_with_len a m)
below_range n a zero h = tt
below_range n a (suc m) h = (omega arith, below_range n (a + 1) m (omega arith))

pub below_filter : (n : ℕ) (test : ℕ → Bool) (xs : List ℕ) → Below n xs → Below n (filter test xs)
below_filter n test [] h = tt
below_filter n test (x ∷ xs) h = elim (cases_Bool (test x)) [
  | inl e ↦ subst (λ b. Below n (cond b (x ∷ filter test xs) (filter test xs))) (sym e) (h.0, below_filter n test xs h.1)
  | inr e ↦ subst (λ b. Below n (cond b (x ∷ filter test xs) (filter test xs))) (sym e) (below_filter n test xs h.1)
]

-- a fold over a chain whose numbers lie below n: what it answers, and what its closure may be asked
module _ {S A C F : Type 0} {steps : S → Option A → S → Type 0} {v : A → ℕ} {s : S} {all : List ℕ} (n : ℕ) (small : Below n all) where
  pub fold_below : (g : Mut F (C × (A × Unit {0})) C) (h : C → ℕ → C) {f : F} (init r : C)
      → ((xs : List A) × (q : F) × Drains steps s xs × FoldsTo {P = F × C} (λ a x b. Called g a.0 (a.1, (x, tt)) b.1 b.0) (f, init) xs (q, r)) → YieldsList steps v s all
      → ((a : C) (x : A) (b : C) (q : F) → Called g f (a, (x, tt)) b q → q ≡ f)
      → ((a : C) (x : A) (b : C) (q : F) → v x < n → Called g f (a, (x, tt)) b q → b ≡ h a (v x)) → r ≡ fold h init all
  fold_below g h {f} init r ran road keeps gives =
      fold_over steps v g (λ ys a. Below n ys → a ≡ fold h init ys) f
      (λ ys a x b q so_far k. ((λ below. let parts = below_push n ys (v x) below in gives a x b q parts.1 k ∙ ap (λ z. h z (v x)) (so_far parts.0) ∙ sym (fold_push h init ys (v x))), keeps a x b q k))
      s all init r road.runs (λ _. refl) ran small

  pub serves_below : YieldsList steps v s all → {R : F × C → A → F × C → Type 0} {Q : F × C → A → Type 0} {f : F} {a : C}
      → ((b : C) (x : A) (q : F × C) → R (f, b) x q → q.0 ≡ f) → ((b : C) (x : A) → v x < n → Q (f, b) x) → CallableAtEachTurn {P = F × C} steps R Q s (f, a)
  serves_below road {R} {Q} {f} {a} keeps asks = serves_by R (λ _ q. q.0 ≡ f) (λ xs q x w j r. keeps q.1 x w (subst (λ k. R (k, q.1) x w) j r)) steps Q s (f, a) refl
      (λ xs t q x u y e j.
      let turn = YieldsList-turn road xs t y (Some x) u x refl e in
      subst (λ k. Q (k, q.1) x) (sym j) (asks q.1 x (omega (arith, turn.1, below_get n all (length xs) (v x) small turn.0))))
