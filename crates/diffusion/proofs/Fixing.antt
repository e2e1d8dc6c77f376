-- One square more of the bands of a set.
use Rattle.std.proofs.Common.{◌≡◌, ℕ, ◌<◌, Bool, true, false, cond, ◌||◌, eqb, map, length, get_or, set, Some, None, Option, sym, refl, ap, ◌∙◌, ap₂, inl, inr, arith}
use Rattle.std.specs.List.{range_with_len}
use Rattle.std.proofs.lemmas.Bool.{eq-eqb, ne_eqb, cases_eq, cond-true, cond-false, both_ways, or_right}
use Rattle.std.proofs.lemmas.List.{length-set, get_or-set_same, get_or-set_other}
use Rattle.std.proofs.lemmas.List.FromFn.{length-map-range_with_len, get_or-map-range_with_len, fill_by_all}
use Rattle.tone.specs.Algebra.{Lawful}
use Rattle.tone.specs.Sums.{total}
use Rattle.tone.proofs.Groups.{neutral_left}
use Rattle.tone.proofs.Totals.{total-same, total_zero, total-sum}
use Rattle.grid.specs.Directions.{opposite}
use Rattle.diffusion.specs.Neighbourhoods.{Neighbourhood, Laws, lower, higher}
use Rattle.diffusion.specs.Draft.{Setting, at, gather, part, amount, code, error}
use Rattle.diffusion.specs.Sets.{Closed, Ready, add}
use Rattle.diffusion.specs.Bands.{code_at, amount_at, part_in, codes, amounts, spread}
use Rattle.diffusion.proofs.Neighbours.{opposite-below, higher-lower, higher-within}
use Rattle.diffusion.proofs.Amounts.{recursion, gather-same}
use Rattle.diffusion.proofs.Spreading.{toward, total-opposite, at_zero, toward_lower, toward_self, length-spread, get_or-spread}

pub add_same : (F : ℕ → Bool) (s t : ℕ) → t ≡ s → add F s t ≡ true
add_same F s t e = ap (λ b. b || F t) (eq-eqb t s e)

pub add_other : (F : ℕ → Bool) (s t : ℕ) → (t ≡ s → ⊥) → add F s t ≡ F t
add_other F s t ne = ap (λ b. b || F t) (ne_eqb t s ne)

pub add_more : (F : ℕ → Bool) (s t : ℕ) → F t ≡ true → add F s t ≡ true
add_more F s t e = or_right (eqb t s) (F t) e

pub closed_after : (squares : Neighbourhood) (F : ℕ → Bool) (s : ℕ) → Closed squares F → Ready squares F s → Closed squares (add F s)
closed_after squares F s closed ready t d u lt ld has e = elim (cases_eq t s) [
  | inl q ↦ add_more F s u (ready d u ld (ap (λ v. lower squares v d) (sym q) ∙ e))
  | inr ne ↦ add_more F s u (closed t d u lt ld (sym (add_other F s t ne) ∙ has) e)
]

-- a write to a list made from a function of the index
get_or_set_counted : {X : Type 0} (f : ℕ → X) (n s k : ℕ) (x d : X) → k < n → get_or (set (map f (range_with_len 0 n)) s x) k d ≡ cond (eqb k s) x (f k)
get_or_set_counted f n s k x d l = elim (cases_eq k s) [
  | inl e ↦ ap (λ i. get_or (set (map f (range_with_len 0 n)) s x) i d) e
      ∙ get_or-set_same (map f (range_with_len 0 n)) s x d (rw (length-map-range_with_len f 0 n) (omega arith))
      ∙ sym (cond-true (eqb k s) x (f k) (eq-eqb k s e))
  | inr ne ↦ get_or-set_other (map f (range_with_len 0 n)) s k x d ne
      ∙ get_or-map-range_with_len f 0 n k k d l (omega arith)
      ∙ sym (cond-false (eqb k s) x (f k) (ne_eqb k s ne))
]

module _ {T : Type 0} (j : Setting T) where
  pub amount_open : (F : ℕ → Bool) (t : ℕ) → F t ≡ false → amount_at j F t ≡ j.algebra.sum (j.drawing t) (gather j.algebra j.squares (part_in j F) t)
  unfolding amount_at
  amount_open F t e = cond-false (F t) (error j t) _ e

  pub amount-fixed : (F : ℕ → Bool) (t : ℕ) → F t ≡ true → amount_at j F t ≡ error j t
  unfolding amount_at
  amount-fixed F t e = cond-true (F t) (error j t) _ e

  -- where the lower neighbours of s are fixed, all that it is to receive has come
  pub held : (F : ℕ → Bool) (s : ℕ) → F s ≡ false → Ready j.squares F s → amount_at j F s ≡ amount j s
  held F s lacks ready =
      amount_open F s lacks
      ∙ ap (j.algebra.sum (j.drawing s)) (gather-same j.algebra j.squares (part_in j F) (part j) s (λ d t l e. cond-true (F t) (part j t (opposite d)) _ (ready d t l e)))
      ∙ sym (recursion j s)

  pub code-after : (F : ℕ → Bool) (s t : ℕ) → code_at j (add F s) t ≡ cond (eqb t s) (code j s) (code_at j F t)
  unfolding code_at
  code-after F s t = elim (cases_eq t s) [
    | inl e ↦ cond-true (add F s t) (code j t) 255 (add_same F s t e) ∙ ap (code j) e ∙ sym (cond-true (eqb t s) (code j s) _ (eq-eqb t s e))
    | inr ne ↦ ap (λ b. cond b (code j t) 255) (add_other F s t ne) ∙ sym (cond-false (eqb t s) (code j s) _ (ne_eqb t s ne))
  ]

module _ {T : Type 0} (j : Setting T) (lawful : Lawful j.algebra) (laws : Laws j.squares) where
  -- what reaches t once s is fixed too
  gather-add : (F : ℕ → Bool) (s t : ℕ) → s < j.squares.count → t < j.squares.count → F s ≡ false
      → gather j.algebra j.squares (part_in j (add F s)) t ≡ j.algebra.sum (gather j.algebra j.squares (part_in j F) t) (total j.algebra (toward j.algebra j.squares s (part j s) t) 8)
  unfolding gather
  gather-add F s t ls lt lacks =
      total-same j.algebra _ _ 8 (λ d l. both d (lower j.squares t d))
      ∙ total-sum j.algebra lawful _ _ 8
      ∙ ap (j.algebra.sum _)
      (total-same j.algebra _ _ 8 (λ d l. toward_lower j.algebra j.squares laws s t d (part j s) ls lt l)
      ∙ total-opposite j.algebra lawful (toward j.algebra j.squares s (part j s) t))
    where
      both : (d : ℕ) (o : Option ℕ)
          → at j.algebra o (λ u. part_in j (add F s) u (opposite d))
          ≡ j.algebra.sum (at j.algebra o (λ u. part_in j F u (opposite d))) (at j.algebra o (λ u. cond (eqb s u) (part j s (opposite d)) j.algebra.zero))
      both d None = sym (lawful.neutral j.algebra.zero)
      both d (Some u) = elim (cases_eq u s) [
        | inl e ↦ cond-true (add F s u) _ _ (add_same F s u e)
            ∙ ap (λ v. part j v (opposite d)) e
            ∙ sym (neutral_left j.algebra lawful (part j s (opposite d)))
            ∙ ap₂ j.algebra.sum
            (sym (cond-false (F u) (part j u (opposite d)) _ (ap F e ∙ lacks)))
            (sym (cond-true (eqb s u) (part j s (opposite d)) _ (eq-eqb s u (sym e))))
        | inr ne ↦ ap (λ b. cond b (part j u (opposite d)) j.algebra.zero) (add_other F s u ne)
            ∙ sym (lawful.neutral _)
            ∙ ap (j.algebra.sum _) (sym (cond-false (eqb s u) (part j s (opposite d)) _ (ne_eqb s u (λ q. ne (sym q)))))
      ]

  -- nothing is sent to a member
  toward_member : (F : ℕ → Bool) (s t : ℕ) → Closed j.squares F → s < j.squares.count → F s ≡ false → t < j.squares.count → F t ≡ true
      → (p : ℕ → T) → total j.algebra (toward j.algebra j.squares s p t) 8 ≡ j.algebra.zero
  toward_member F s t closed ls lacks lt has p =
      total_zero j.algebra lawful _ 8 (λ d ld. at_zero j.algebra (higher j.squares s d) _ (λ u e.
      cond-false (eqb t u) (p d) _ (ne_eqb t u (λ q.
      both_ways (F s) lacks (closed t (opposite d) s lt (opposite-below d) has
      (higher-lower j.squares laws s d t ls ld (e ∙ ap Some (sym q))))))))

  pub amount-after : (F : ℕ → Bool) (s t : ℕ) → Closed j.squares F → s < j.squares.count → F s ≡ false → t < j.squares.count
      → amount_at j (add F s) t ≡ cond (eqb t s) (error j s) (j.algebra.sum (amount_at j F t) (total j.algebra (toward j.algebra j.squares s (part j s) t) 8))
  amount-after F s t closed ls lacks lt = elim (cases_eq t s) [
    | inl e ↦ amount-fixed j (add F s) t (add_same F s t e) ∙ ap (error j) e ∙ sym (cond-true (eqb t s) (error j s) _ (eq-eqb t s e))
    | inr ne ↦ other ne (F t) refl ∙ sym (cond-false (eqb t s) (error j s) _ (ne_eqb t s ne))
  ]
    where
      other : (t ≡ s → ⊥) → (b : Bool) → F t ≡ b → amount_at j (add F s) t ≡ j.algebra.sum (amount_at j F t) (total j.algebra (toward j.algebra j.squares s (part j s) t) 8)
      other ne true has =
          amount-fixed j (add F s) t (add_other F s t ne ∙ has)
          ∙ sym (ap₂ j.algebra.sum (amount-fixed j F t has) (toward_member F s t closed ls lacks lt has (part j s)) ∙ lawful.neutral (error j t))
      other ne false out =
          amount_open j (add F s) t (add_other F s t ne ∙ out)
          ∙ ap (j.algebra.sum (j.drawing t)) (gather-add F s t ls lt lacks)
          ∙ sym (lawful.assoc (j.drawing t) (gather j.algebra j.squares (part_in j F) t) (total j.algebra (toward j.algebra j.squares s (part j s) t) 8))
          ∙ ap (λ x. j.algebra.sum x (total j.algebra (toward j.algebra j.squares s (part j s) t) 8)) (sym (amount_open j F t out))

  pub codes-after : (F : ℕ → Bool) (s : ℕ) → s < j.squares.count → set (codes j F) s (code j s) ≡ codes j (add F s)
  codes-after F s ls = fill_by_all (code_at j (add F s)) _ j.squares.count 0
      (length-set (codes j F) s _ ∙ length-map-range_with_len (code_at j F) 0 j.squares.count)
      (λ k l. get_or_set_counted (code_at j F) j.squares.count s k _ 0 l ∙ sym (code-after j F s k))

  pub amounts-after : (F : ℕ → Bool) (s : ℕ) → Closed j.squares F → s < j.squares.count → F s ≡ false
      → spread j.algebra j.squares s (part j s) 8 (set (amounts j F) s (error j s)) ≡ amounts j (add F s)
  amounts-after F s closed ls lacks = fill_by_all (amount_at j (add F s)) _ j.squares.count j.algebra.zero
      (length-spread j.algebra j.squares lawful s (part j s) 8 _ ∙ size)
      (λ k l. get_or-spread j.algebra j.squares lawful s (part j s) 8 _ k (λ d t ld e. rw size (higher-within j.squares laws s d t ls ld e)) ∙ each k l)
    where
      reach : ℕ → T
      reach k = total j.algebra (toward j.algebra j.squares s (part j s) k) 8

      each : (k : ℕ) → k < j.squares.count → j.algebra.sum (get_or (set (amounts j F) s (error j s)) k j.algebra.zero) (reach k) ≡ amount_at j (add F s) k
      each k l =
          ap (λ x. j.algebra.sum x (reach k)) (get_or_set_counted (amount_at j F) j.squares.count s k (error j s) j.algebra.zero l)
          ∙ elim (cases_eq k s) [
            | inl e ↦ ap₂ j.algebra.sum (cond-true (eqb k s) (error j s) (amount_at j F k) (eq-eqb k s e)) (ap reach e ∙ toward_self j.algebra j.squares lawful s (part j s))
                ∙ lawful.neutral (error j s)
                ∙ sym (cond-true (eqb k s) (error j s) (j.algebra.sum (amount_at j F k) (reach k)) (eq-eqb k s e))
            | inr ne ↦ ap (λ x. j.algebra.sum x (reach k)) (cond-false (eqb k s) (error j s) (amount_at j F k) (ne_eqb k s ne))
                ∙ sym (cond-false (eqb k s) (error j s) (j.algebra.sum (amount_at j F k) (reach k)) (ne_eqb k s ne))
          ]
          ∙ sym (amount-after F s k closed ls lacks l)

      size : length (set (amounts j F) s (error j s)) ≡ j.squares.count
      size = length-set (amounts j F) s _ ∙ length-map-range_with_len (amount_at j F) 0 j.squares.count
