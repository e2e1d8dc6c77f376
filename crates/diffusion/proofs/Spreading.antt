-- What one square sends, seen from it and from the others, and added to a band.
use Rattle.std.proofs.Common.{◌≡◌, ℕ, suc, ◌<◌, cond, eqb, ◌⊎◌, List, length, get_or, Some, None, Option, sym, refl, ap, ◌∙◌, ap₂, inl, inr, arith}
use Rattle.std.proofs.lemmas.Bool.{eq-eqb, ne_eqb, cases_eq, cond-true, cond-false}
use Rattle.std.proofs.lemmas.List.{length-set, get_or-set_same, get_or-set_other}
use Rattle.tone.specs.Algebra.{Algebra, Lawful}
use Rattle.tone.specs.Sums.{total}
use Rattle.tone.proofs.Totals.{total_zero, total_split}
use Rattle.grid.specs.Directions.{opposite}
use Rattle.diffusion.specs.Neighbourhoods.{Neighbourhood, Laws, lower, higher}
use Rattle.diffusion.specs.Draft.{at}
use Rattle.diffusion.specs.Bands.{put, spread}
use Rattle.diffusion.proofs.Neighbours.{opposite-below, opposite_twice, higher-lower, lower-higher, higher_near}

-- what s, which sends p d in each direction d, sends to t in the direction d
abbrev pub toward : {T : Type 0} → Algebra T → Neighbourhood → ℕ → (ℕ → T) → ℕ → ℕ → T
toward tone squares s p t d = at tone (higher squares s d) (λ u. cond (eqb t u) (p d) tone.zero)

-- the opposite directions are the directions
pub total-opposite : {T : Type 0} (tone : Algebra T) → Lawful tone → (f : ℕ → T) → total tone (λ d. f (opposite d)) 8 ≡ total tone f 8
unfolding total
total-opposite tone lawful f = total_split tone lawful (λ d. f (opposite d)) 4 4 ∙ lawful.comm _ _ ∙ sym (total_split tone lawful f 4 4)

cases_some : (o : Option ℕ) (s : ℕ) → (o ≡ Some s) ⊎ (o ≡ Some s → ⊥)
cases_some None s = inr (λ e. let z : ◌≡◌ {A = ℕ} 0 1 = cc in omega arith)
cases_some (Some t) s = elim (cases_eq t s) [ inl e ↦ inl (ap Some e) | inr ne ↦ inr (λ e. ne (cc)) ]

module _ {T : Type 0} (tone : Algebra T) where
  pub at_zero : (o : Option ℕ) (f : ℕ → T) → ((t : ℕ) → o ≡ Some t → f t ≡ tone.zero) → at tone o f ≡ tone.zero
  at_zero None f h = refl
  at_zero (Some t) f h = h t refl

  -- two ways to say that one place stands there
  pub meet : (o o' : Option ℕ) (s t : ℕ) (x : T) → (o ≡ Some s → o' ≡ Some t) → (o' ≡ Some t → o ≡ Some s)
      → at tone o (λ u. cond (eqb s u) x tone.zero) ≡ at tone o' (λ u. cond (eqb t u) x tone.zero)
  meet o o' s t x to from = elim (cases_some o s) [
    | inl e ↦ there o s e ∙ sym (there o' t (to e))
    | inr ne ↦ absent o s ne ∙ sym (absent o' t (λ e. ne (from e)))
  ]
    where
      there : (o : Option ℕ) (s : ℕ) → o ≡ Some s → at tone o (λ u. cond (eqb s u) x tone.zero) ≡ x
      there o s e = rw e (cond-true (eqb s s) x tone.zero (eq-eqb s s refl))

      absent : (o : Option ℕ) (s : ℕ) → (o ≡ Some s → ⊥) → at tone o (λ u. cond (eqb s u) x tone.zero) ≡ tone.zero
      absent o s ne = at_zero o _ (λ u e. cond-false (eqb s u) x tone.zero (ne_eqb s u (λ q. ne (e ∙ ap Some (sym q)))))

module _ {T : Type 0} (tone : Algebra T) (squares : Neighbourhood) where
  -- what s sends to t, as s counts the directions and as t does
  pub toward_lower : Laws squares → (s t d : ℕ) (p : ℕ → T) → s < squares.count → t < squares.count → d < 8
      → at tone (lower squares t d) (λ u. cond (eqb s u) (p (opposite d)) tone.zero) ≡ toward tone squares s p t (opposite d)
  toward_lower laws s t d p ls lt ld =
      meet tone (lower squares t d) (higher squares s (opposite d)) s t (p (opposite d))
      (lower-higher squares laws t d s lt ld)
      (λ e. ap (lower squares t) (sym (opposite_twice d ld)) ∙ higher-lower squares laws s (opposite d) t ls (opposite-below d) e)

module _ {T : Type 0} (tone : Algebra T) (squares : Neighbourhood) (lawful : Lawful tone) where
  pub toward_self : (s : ℕ) (p : ℕ → T) → total tone (toward tone squares s p s) 8 ≡ tone.zero
  toward_self s p =
      total_zero tone lawful _ 8 (λ d ld. at_zero tone (higher squares s d) _ (λ u e.
      cond-false (eqb s u) (p d) _ (ne_eqb s u (λ q. let r = (higher_near squares s d u e).1 in omega (arith, ap squares.rank q)))))

  -- the fold over the directions
  length-put : (o : Option ℕ) (a : T) (xs : List T) → length (put tone o a xs) ≡ length xs
  length-put None a xs = refl
  length-put (Some t) a xs = length-set xs t _

  pub length-spread : (s : ℕ) (p : ℕ → T) (n : ℕ) (xs : List T) → length (spread tone squares s p n xs) ≡ length xs
  unfolding spread
  length-spread s p ℕ.zero xs = refl
  length-spread s p (suc n) xs = length-put (higher squares s n) (p n) _ ∙ length-spread s p n xs

  get_or-put : (o : Option ℕ) (a : T) (xs : List T) (k : ℕ) → ((t : ℕ) → o ≡ Some t → t < length xs)
      → get_or (put tone o a xs) k tone.zero ≡ tone.sum (get_or xs k tone.zero) (at tone o (λ u. cond (eqb k u) a tone.zero))
  get_or-put None a xs k h = sym (lawful.neutral _)
  get_or-put (Some t) a xs k h = elim (cases_eq k t) [
    | inl e ↦ ap (λ i. get_or (put tone (Some t) a xs) i tone.zero) e
        ∙ get_or-set_same xs t _ tone.zero (h t refl)
        ∙ ap₂ tone.sum (ap (λ i. get_or xs i tone.zero) (sym e)) (sym (cond-true (eqb k t) a _ (eq-eqb k t e)))
    | inr ne ↦ get_or-set_other xs t k _ tone.zero ne
        ∙ sym (lawful.neutral _)
        ∙ ap (tone.sum _) (sym (cond-false (eqb k t) a _ (ne_eqb k t ne)))
  ]

  pub get_or-spread : (s : ℕ) (p : ℕ → T) (n : ℕ) (xs : List T) (k : ℕ) → ((d t : ℕ) → d < n → higher squares s d ≡ Some t → t < length xs)
      → get_or (spread tone squares s p n xs) k tone.zero ≡ tone.sum (get_or xs k tone.zero) (total tone (toward tone squares s p k) n)
  unfolding spread total
  get_or-spread s p ℕ.zero xs k h = sym (lawful.neutral _)
  get_or-spread s p (suc n) xs k h =
      get_or-put (higher squares s n) (p n) (spread tone squares s p n xs) k (λ t e. let l = h n t (omega arith) e in rw (length-spread s p n xs) l)
      ∙ ap (λ a. tone.sum a (toward tone squares s p k n)) (get_or-spread s p n xs k (λ d t l e. h d t (omega arith) e))
      ∙ lawful.assoc _ _ _
