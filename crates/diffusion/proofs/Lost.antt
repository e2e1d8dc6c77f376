-- The list of the fixed barons: each once, by rising place, and no other square.
use Rattle.std.proofs.Common.{◌≡◌, ℕ, zero, suc, ◌+◌, ◌<◌, Bool, true, false, cond, ◌&&◌, List, [], ◌∷◌, ◌++◌, map, length, get_or, sym, refl, ap, ◌∙◌, subst, ap₂, inl, inr, arith}
use Rattle.std.specs.List.{ContainsAt as Has}
use Rattle.std.proofs.lemmas.List.{map-append, append-nil, length_push, get_or_push, get_or_append_left}
use Rattle.std.proofs.ByRecursion.{has_push, has_push_cases, has_append_left, has_get_or}
use Rattle.std.proofs.lemmas.Bool.{cases_eq, and_parts, and_from}
use Rattle.tone.specs.Sums.{sum_of, total}
use Rattle.tone.proofs.Groups.{neutral_left, sum-append}
use Rattle.diffusion.specs.Neighbourhoods.{Neighbourhood, baron}
use Rattle.diffusion.specs.Draft.{Setting, Lawful, error}
use Rattle.diffusion.specs.Bands.{bands, amounts}
use Rattle.diffusion.specs.Tallies.{lost, loss_places, loss_errors}
use Rattle.diffusion.specs.Theorems.{ListsLosses}
use Rattle.diffusion.proofs.Fixing.{amount-fixed}
use Rattle.diffusion.proofs.SetBands.{amount_read, standing_is}

abbrev Rising : List ℕ → Type 0
Rising xs = (i k : ℕ) → i < k → k < length xs → get_or xs i 0 < get_or xs k 0

module _ (squares : Neighbourhood) where
  pub lost-same : (F G : ℕ → Bool) (n : ℕ) → ((s : ℕ) → s < n → F s ≡ G s) → lost squares F n ≡ lost squares G n
  unfolding lost
  lost-same F G zero h = refl
  lost-same F G (suc n) h = ap₂ (λ xs b. xs ++ cond (b && baron squares n) (n ∷ []) []) (lost-same F G n (λ s l. h s (omega arith))) (h n (omega arith))

  lost-map : {X : Type 0} (e f : ℕ → X) (F : ℕ → Bool) (n : ℕ) → ((s : ℕ) → s < n → F s ≡ true → e s ≡ f s) → map e (lost squares F n) ≡ map f (lost squares F n)
  unfolding lost
  lost-map e f F zero h = refl
  lost-map e f F (suc n) h =
      map-append e (lost squares F n) _ ∙ ap₂ ◌++◌ (lost-map e f F n (λ s l. h s (omega arith))) (last (F n && baron squares n) refl) ∙ sym (map-append f (lost squares F n) _)
    where
      last : (b : Bool) → (F n && baron squares n) ≡ b → map e (cond b (n ∷ []) []) ≡ map f (cond b (n ∷ []) [])
      last true q = ap (λ x. x ∷ []) (h n (omega arith) (and_parts (F n) (baron squares n) q).0)
      last false q = refl

  -- one more place
  lost_more : (F : ℕ → Bool) (n : ℕ) (b : Bool) → (F n && baron squares n) ≡ b → lost squares F (suc n) ≡ lost squares F n ++ cond b (n ∷ []) []
  unfolding lost
  lost_more F n b e = ap (λ t. lost squares F n ++ cond t (n ∷ []) []) e

  lost_only : (F : ℕ → Bool) (n s : ℕ) → Has (lost squares F n) s → (s < n) × (F s ≡ true) × (baron squares s ≡ true)
  unfolding lost
  lost_only F zero s h = absurd (omega (arith, h.1))
  lost_only F (suc n) s h = go (F n && baron squares n) refl (lost_only F n s)
    where
      go : (b : Bool) → (F n && baron squares n) ≡ b → (Has (lost squares F n) s → (s < n) × (F s ≡ true) × (baron squares s ≡ true)) → (s < suc n) × (F s ≡ true) × (baron squares s ≡ true)
      go true q before =
          let h' : Has (lost squares F n ++ n ∷ []) s = subst (λ xs. Has xs s) (lost_more F n true q) h in
          elim (has_push_cases (lost squares F n) n s h') [
            | inl k ↦ (let r = before k in (omega (arith, r.0), r.1, r.2))
            | inr e ↦ (let r = and_parts (F n) (baron squares n) q in (omega arith, ap F (sym e) ∙ r.0, ap (baron squares) (sym e) ∙ r.1))
          ]
      go false q before =
          let h' : Has (lost squares F n) s = subst (λ xs. Has xs s) (lost_more F n false q ∙ append-nil (lost squares F n)) h in
          let r = before h' in (omega (arith, r.0), r.1, r.2)

  lost_has : (F : ℕ → Bool) (n s : ℕ) → s < n → F s ≡ true → baron squares s ≡ true → Has (lost squares F n) s
  lost_has F zero s l f b = absurd (omega arith)
  lost_has F (suc n) s l f b = elim (cases_eq s n) [
    | inl e ↦ subst (λ xs. Has xs s) (sym (lost_more F n true (and_from _ _ (ap F (sym e) ∙ f) (ap (baron squares) (sym e) ∙ b))))
        (subst (λ m. Has (lost squares F n ++ n ∷ []) m) (sym e) (has_push (lost squares F n) n))
    | inr ne ↦ subst (λ xs. Has xs s) (sym (lost_more F n _ refl)) (has_append_left (lost squares F n) _ s (lost_has F n s (omega arith) f b))
  ]

  lost_rising : (F : ℕ → Bool) (n : ℕ) → Rising (lost squares F n)
  unfolding lost
  lost_rising F zero = none
    where
      none : Rising (lost squares F 0)
      none i k h l = absurd (omega arith)
  lost_rising F (suc n) = go (F n && baron squares n) refl (lost_rising F n)
    where
      go : (b : Bool) → (F n && baron squares n) ≡ b → Rising (lost squares F n) → Rising (lost squares F (suc n))
      go false q r = subst Rising (sym (lost_more F n false q ∙ append-nil (lost squares F n))) r
      go true q r = subst Rising (sym (lost_more F n true q)) (λ i k h l.
          let xs = lost squares F n in
          let long : length (xs ++ n ∷ []) ≡ length xs + 1 = length_push xs n in
          let here : i < length xs = omega arith in
          let left : get_or (xs ++ n ∷ []) i 0 ≡ get_or xs i 0 = get_or_append_left xs (n ∷ []) 0 i here in
          elim (cases_eq k (length xs)) [
            | inl e ↦ (let right : get_or (xs ++ n ∷ []) k 0 ≡ n = get_or_push xs n 0 k (sym e) in
                let below = (lost_only F n (get_or xs i 0) (has_get_or xs i 0 here)).0 in
                omega (arith, left, right, below))
            | inr ne ↦ (let right : get_or (xs ++ n ∷ []) k 0 ≡ get_or xs k 0 = get_or_append_left xs (n ∷ []) 0 k (omega arith) in
                let below = r i k h (omega arith) in
                omega (arith, left, right, below))
          ])

module _ {T : Type 0} (j : Setting T) (lawful : Lawful j) where
  -- the errors of the list, added
  lost-sum : (F : ℕ → Bool) (e : ℕ → T) (n : ℕ) → sum_of j.algebra (map e (lost j.squares F n)) ≡ total j.algebra (λ s. cond (F s && baron j.squares s) (e s) j.algebra.zero) n
  unfolding total lost
  lost-sum F e zero = refl
  lost-sum F e (suc n) =
      ap (sum_of j.algebra) (map-append e (lost j.squares F n) _)
      ∙ sum-append j.algebra lawful.tone (map e (lost j.squares F n)) _
      ∙ ap₂ j.algebra.sum (lost-sum F e n) (one (F n && baron j.squares n))
    where
      one : (b : Bool) → sum_of j.algebra (map e (cond b (n ∷ []) [])) ≡ cond b (e n) j.algebra.zero
      one true = neutral_left j.algebra lawful.tone (e n)
      one false = refl

  pub lists_losses : (F : ℕ → Bool) → ListsLosses j F
  lists_losses F =
      let n = j.squares.count in
      let same : loss_places j (bands j F) ≡ lost j.squares F n = lost-same j.squares _ F n (standing_is j F lawful.tables) in
      let errors : loss_errors j (bands j F) ≡ map (error j) (lost j.squares F n) =
      ap (map (λ s. get_or (amounts j F) s j.algebra.zero)) same
      ∙ lost-map j.squares _ (error j) F n (λ s l has. amount_read j F s l ∙ amount-fixed j F s has) in
      record {
        rising = subst Rising (sym same) (lost_rising j.squares F n);
        has = λ s l has is. subst (λ xs. Has xs s) (sym same) (lost_has j.squares F n s l has is);
        only = λ s h. lost_only j.squares F n s (subst (λ xs. Has xs s) same h);
        errors = errors ∙ ap (map (error j)) (sym same);
        sum = ap (sum_of j.algebra) errors ∙ lost-sum F (error j) n;
      }
