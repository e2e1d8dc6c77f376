-- Settings that are alike have the same draft: the amounts of the one satisfy the recursion of the other.
use Rattle.std.proofs.Common.{◌≡◌, ℕ, zero, suc, ◌+◌, ◌<◌, ◌≤◌, Bool, cond, eqb, ltb, map, is_some, Some, None, Option, sym, refl, ap, ◌∙◌, ap₂, inl, inr, arith}
use Rattle.std.specs.List.{range_with_len}
use Rattle.std.proofs.lemmas.Bool.{cases_eq, cases_lt, lt-ltb, le-ltb}
use Rattle.tone.specs.Algebra.{Algebra}
use Rattle.tone.proofs.Totals.{total-same}
use Rattle.grid.specs.Directions.{opposite, weight}
use Rattle.diffusion.specs.Neighbourhoods.{Laws, keep, lower, higher, weights, last}
use Rattle.diffusion.specs.Draft.{Setting, at, shared, shared_before, sends, gather, left, due_amount, amount, code, error}
use Rattle.diffusion.specs.Bands.{bands, code_at, amount_at, codes, amounts}
use Rattle.diffusion.specs.Theorems.{Alike, SameDraft}
use Rattle.diffusion.proofs.Neighbours.{opposite-below, lower-within}
use Rattle.diffusion.proofs.Amounts.{at_same, recursion, unique}
use Rattle.diffusion.proofs.SetBands.{counted_same}

module _ {T : Type 0} (j k : Setting T) (laws : Laws j.squares) (same : Alike j k) where
  -- neighbours compare alike, either way round
  record Compared (s t : ℕ) : Type 0 where
    up : ltb (j.squares.rank s) (j.squares.rank t) ≡ ltb (k.squares.rank s) (k.squares.rank t)
    down : ltb (j.squares.rank t) (j.squares.rank s) ≡ ltb (k.squares.rank t) (k.squares.rank s)

  compared : (s d t : ℕ) → s < j.squares.count → d < 8 → j.squares.near s d ≡ Some t → Compared s t
  compared s d t l ld h = elim (cases_lt (j.squares.rank s) (j.squares.rank t)) [
    | inl lt ↦
        let lt' = same.order s d t l ld h lt in
        record {
          up = lt-ltb _ _ lt ∙ sym (lt-ltb _ _ lt');
          down = le-ltb _ _ (omega arith) ∙ sym (le-ltb _ _ (omega arith));
        }
    | inr ge ↦ elim (cases_eq (j.squares.rank s) (j.squares.rank t)) [
      | inl e ↦ absurd (laws.apart s d t l ld h e)
      | inr ne ↦
          let gt : j.squares.rank t < j.squares.rank s = omega arith in
          let gt' = same.order t (opposite d) s (laws.inside s d t l ld h) (opposite-below d) (laws.returns s d t l ld h) gt in
          record {
            up = le-ltb _ _ ge ∙ sym (le-ltb _ _ (omega arith));
            down = lt-ltb _ _ gt ∙ sym (lt-ltb _ _ gt');
          }
    ]
  ]

  keep_same : (p q : ℕ → Bool) (o : Option ℕ) → ((t : ℕ) → o ≡ Some t → p t ≡ q t) → keep p o ≡ keep q o
  keep_same p q None h = refl
  keep_same p q (Some t) h = ap (λ b. cond b (Some t) None) (h t refl)

  lower-same : (s d : ℕ) → s < j.squares.count → d < 8 → lower j.squares s d ≡ lower k.squares s d
  unfolding lower
  lower-same s d l ld =
      keep_same _ _ (j.squares.near s d) (λ t h. (compared s d t l ld h).down)
      ∙ ap (keep (λ t. ltb (k.squares.rank t) (k.squares.rank s))) (same.near s d l ld)

  higher-same : (s d : ℕ) → s < j.squares.count → d < 8 → higher j.squares s d ≡ higher k.squares s d
  unfolding higher
  higher-same s d l ld =
      keep_same _ _ (j.squares.near s d) (λ t h. (compared s d t l ld h).up)
      ∙ ap (keep (λ t. ltb (k.squares.rank s) (k.squares.rank t))) (same.near s d l ld)

  weights-same : (s n : ℕ) → s < j.squares.count → n ≤ 8 → weights j.squares s n ≡ weights k.squares s n
  unfolding weights
  weights-same s zero l h = refl
  weights-same s (suc n) l h = ap₂ (λ w o. w + cond (is_some o) (weight n) 0) (weights-same s n l (omega arith)) (higher-same s n l (omega arith))

  last-same : (s n : ℕ) → s < j.squares.count → n ≤ 8 → last j.squares s n ≡ last k.squares s n
  unfolding last
  last-same s zero l h = refl
  last-same s (suc n) l h = ap₂ (λ o m. cond (is_some o) n m) (higher-same s n l (omega arith)) (last-same s n l (omega arith))

  module _ (tone : Algebra T) where
    shared_same : (s d : ℕ) (e : T) → s < j.squares.count → d < 8 → shared tone j.squares s e d ≡ shared tone k.squares s e d
    shared_same s d e l ld = ap₂ (λ o w. cond (is_some o) (tone.share e (weight d) w) tone.zero) (higher-same s d l ld) (weights-same s 8 l (omega arith))

    sends-same : (s d : ℕ) (e : T) → s < j.squares.count → d < 8 → sends tone j.squares s e d ≡ sends tone k.squares s e d
    unfolding sends
    sends-same s d e l ld =
        let is = last-same s 8 l (omega arith) in
        ap₂ (λ m x. cond (eqb d m) (tone.difference e x) (shared tone j.squares s e d)) is
        (total-same tone (shared_before tone j.squares s e) (shared_before tone k.squares s e) 8
        (λ i li. ap₂ (λ m x. cond (eqb i m) tone.zero x) is (shared_same s i e l li)))
        ∙ ap (cond (eqb d (last k.squares s 8)) _) (shared_same s d e l ld)

    gather_alike : (p q : ℕ → ℕ → T) (s : ℕ) → s < j.squares.count
        → ((d t : ℕ) → d < 8 → t < j.squares.count → p t (opposite d) ≡ q t (opposite d)) → gather tone j.squares p s ≡ gather tone k.squares q s
    unfolding gather
    gather_alike p q s l h = total-same tone _ _ 8 (λ d ld.
        at_same tone (lower j.squares s d) _ (λ t. q t (opposite d)) (λ t e. h d t ld (lower-within j.squares laws s d t l ld e))
        ∙ ap (λ o. at tone o (λ t. q t (opposite d))) (lower-same s d l ld))

  left-same : (x : T) → left j x ≡ left k x
  left-same x =
      ap (j.algebra.difference x) (same.output (j.tables.choice x) ∙ ap k.tables.output (same.choice x))
      ∙ ap (λ a. a.difference x (k.tables.output (k.tables.choice x))) same.algebra

  -- what a square sends, in the one setting and in the other but for the algebra
  part_same : (s d : ℕ) (x y : T) → s < j.squares.count → d < 8 → x ≡ y
      → sends j.algebra j.squares s (left j x) d ≡ sends j.algebra k.squares s (left k y) d
  part_same s d x y l ld e =
      ap (λ z. sends j.algebra j.squares s z d) (left-same x ∙ ap (left k) e) ∙ sends-same j.algebra s d (left k y) l ld

  amount-same : (s : ℕ) → s < j.squares.count → amount j s ≡ amount k s
  amount-same s l = sym (unique j laws (amount k) satisfied s l)
    where
      satisfied : (s : ℕ) → s < j.squares.count → amount k s ≡ due_amount j (amount k) s
      satisfied s l =
          recursion k s
          ∙ ap (λ a. a.sum (k.drawing s) (gather a k.squares (λ t d. sends a k.squares t (left k (amount k t)) d) s)) (sym same.algebra)
          ∙ sym (ap₂ j.algebra.sum (same.drawing s l) (gather_alike j.algebra _ _ s l (λ d t ld lt.
          part_same t (opposite d) (amount k t) (amount k t) lt (opposite-below d) refl)))

  error-same : (s : ℕ) → s < j.squares.count → error j s ≡ error k s
  error-same s l = left-same (amount j s) ∙ ap (left k) (amount-same s l)

  code_same : (s : ℕ) → s < j.squares.count → code j s ≡ code k s
  code_same s l = same.choice (amount j s) ∙ ap k.tables.choice (amount-same s l)

  amount_at-same : (F : ℕ → Bool) (s : ℕ) → s < j.squares.count → amount_at j F s ≡ amount_at k F s
  unfolding amount_at
  amount_at-same F s l = ap₂ (cond (F s)) (error-same s l)
      (ap₂ j.algebra.sum (same.drawing s l) (gather_alike j.algebra _ _ s l (λ d t ld lt.
      ap (λ x. cond (F t) x j.algebra.zero) (part_same t (opposite d) (amount j t) (amount k t) lt (opposite-below d) (amount-same t lt))))
      ∙ ap (λ a. a.sum (k.drawing s) (gather a k.squares (λ t d. cond (F t) (sends a k.squares t (error k t) d) a.zero) s)) same.algebra)

  bands_alike : (F : ℕ → Bool) → bands j F ≡ bands k F
  unfolding code_at
  bands_alike F =
      let cs : codes j F ≡ codes k F =
      counted_same (code_at j F) (code_at k F) j.squares.count 0 (λ s l. ap (λ c. cond (F s) c 255) (code_same s l))
      ∙ ap (λ n. map (code_at k F) (range_with_len 0 n)) same.count in
      let sa : amounts j F ≡ amounts k F =
      counted_same (amount_at j F) (amount_at k F) j.squares.count j.algebra.zero (amount_at-same F)
      ∙ ap (λ n. map (amount_at k F) (range_with_len 0 n)) same.count in
      λ i. record { codes = cs i; amounts = sa i }

  pub same_draft : SameDraft j k
  same_draft = record { amounts = amount-same; codes = code_same; errors = error-same; bands = bands_alike }
