-- One square more among those whose errors are lost.
use Rattle.std.proofs.Common.{◌≡◌, ℕ, zero, suc, ◌+◌, ◌<◌, ◌≤◌, Bool, true, false, cond, not, ◌&&◌, eqb, List, [], ◌∷◌, ◌++◌, length, get_or, filter, sym, refl, ap, ◌∙◌, inl, inr, add-zero, add-one, arith}
use Rattle.std.specs.List.{range_with_len}
use Rattle.std.proofs.lemmas.List.{append-nil, append_assoc, length_push}
use Rattle.std.proofs.lemmas.Bool.{cases_Bool, cases_eq}
use Rattle.diffusion.specs.Bands.{standing}
use Rattle.diffusion.specs.Neighbourhoods.{Neighbourhood, baron}
use Rattle.diffusion.specs.Tallies.{lost}
use Rattle.job.specs.Listings.{lost_below}
use Rattle.job.proofs.Standing.{lost_read}

module _ (squares : Neighbourhood) (codes : List ℕ) where
  pub lost-none : lost_below squares codes 0 ≡ []
  unfolding lost
  lost-none = refl

  lost-step : (n : ℕ) (b : Bool) → b ≡ (standing codes n && baron squares n) → lost_below squares codes (n + 1) ≡ lost_below squares codes n ++ cond b (n ∷ []) []
  unfolding lost
  lost-step n b e = ap (lost_below squares codes) (add-one n) ∙ ap (λ t. lost_below squares codes n ++ cond t (n ∷ []) []) (sym e)

  pub lost_more : (n : ℕ) → (standing codes n && baron squares n) ≡ true → lost_below squares codes (n + 1) ≡ lost_below squares codes n ++ n ∷ []
  lost_more n is = lost-step n true (sym is)

  pub lost-same : (n : ℕ) → (standing codes n && baron squares n) ≡ false → lost_below squares codes (n + 1) ≡ lost_below squares codes n
  lost-same n is = lost-step n false (sym is) ∙ append-nil (lost_below squares codes n)

  -- at least as many, and at most one more
  lost_between : (n : ℕ) → (length (lost_below squares codes n) ≤ length (lost_below squares codes (n + 1))) × (length (lost_below squares codes (n + 1)) ≤ length (lost_below squares codes n) + 1)
  lost_between n = elim (cases_Bool (standing codes n && baron squares n)) [
    | inl is ↦ (omega (arith, ap length (lost_more n is), length_push (lost_below squares codes n) n), omega (arith, ap length (lost_more n is), length_push (lost_below squares codes n) n))
    | inr is ↦ (omega (arith, ap length (lost-same n is)), omega (arith, ap length (lost-same n is)))
  ]

  pub lost_le : (n : ℕ) → length (lost_below squares codes n) ≤ n
  lost_le zero = omega (arith, ap length lost-none)
  lost_le (suc n) = omega (arith, lost_le n, (lost_between n).1, ap (λ k. length (lost_below squares codes k)) (add-one n))

  pub lost_grows : (i n : ℕ) → i ≤ n → length (lost_below squares codes i) ≤ length (lost_below squares codes n)
  lost_grows i zero h = let e : i ≡ 0 = omega arith in omega (arith, ap (λ k. length (lost_below squares codes k)) e)
  lost_grows i (suc n) h = elim (cases_eq i (suc n)) [
    | inl e ↦ omega (arith, ap (λ k. length (lost_below squares codes k)) e)
    | inr ne ↦ omega (arith, lost_grows i n (omega arith), (lost_between n).0, ap (λ k. length (lost_below squares codes k)) (add-one n))
  ]

  lost_room : (i n : ℕ) → i < n → (standing codes i && baron squares i) ≡ true → length (lost_below squares codes i) < length (lost_below squares codes n)
  lost_room i n h is = omega (arith, lost_grows (i + 1) n (omega arith), ap length (lost_more i is), length_push (lost_below squares codes i) i)

  -- a lost square has room behind those before it where all have room
  pub room : (n many total space : ℕ) → n < total → length codes ≡ total → true ≡ (not (eqb (get_or codes n 0) 255) && baron squares n)
      → many ≡ length (lost_below squares codes n) → length (lost_below squares codes total) ≤ space → many < space
  room n many total space below long tested counted wide =
      let inside : n < length codes = omega arith in
      omega (arith, lost_room n total below (sym (lost_read codes n inside squares true tested)))

  pub count_more : (i many : ℕ) → (standing codes i && baron squares i) ≡ true → many ≡ length (lost_below squares codes i) → many + 1 ≡ length (lost_below squares codes (i + 1))
  count_more i many is counted = omega (arith, ap length (lost_more i is), length_push (lost_below squares codes i) i)

  pub count_same : (i many : ℕ) → (standing codes i && baron squares i) ≡ false → many ≡ length (lost_below squares codes i) → many ≡ length (lost_below squares codes (i + 1))
  count_same i many is counted = omega (arith, ap length (lost-same i is))

  -- as a list of places that pass the test
  abbrev pub is_lost : ℕ → Bool
  is_lost n = not (eqb (get_or codes n 0) 255) && baron squares n

  -- those of n places from k on, behind those below k
  filter_from : (k n : ℕ) → k + n ≤ length codes → lost_below squares codes k ++ filter is_lost (range_with_len k n) ≡ lost_below squares codes (k + n)
  filter_from k zero h = append-nil (lost_below squares codes k) ∙ ap (lost_below squares codes) (sym (add-zero k))
  filter_from k (suc n) h =
      let inside : k < length codes = omega arith in
      let read : is_lost k ≡ (standing codes k && baron squares k) = lost_read codes k inside squares (is_lost k) refl in
      let rest = filter is_lost (range_with_len (k + 1) n) in
      let next : k + 1 + n ≡ k + suc n = omega arith in
      elim (cases_Bool (is_lost k)) [
        | inl is ↦ ap (λ b. lost_below squares codes k ++ cond b (k ∷ rest) rest) is ∙ sym (append_assoc (lost_below squares codes k) (k ∷ []) rest)
            ∙ ap (λ l. l ++ rest) (sym (lost_more k (sym read ∙ is))) ∙ filter_from (k + 1) n (omega arith) ∙ ap (lost_below squares codes) next
        | inr is ↦ ap (λ b. lost_below squares codes k ++ cond b (k ∷ rest) rest) is
            ∙ ap (λ l. l ++ rest) (sym (lost-same k (sym read ∙ is))) ∙ filter_from (k + 1) n (omega arith) ∙ ap (lost_below squares codes) next
      ]

  pub filter_all : (n : ℕ) → n ≤ length codes → filter is_lost (range_with_len 0 n) ≡ lost_below squares codes n
  filter_all n h =
      let all : 0 + n ≡ n = omega arith in
      ap (λ l. l ++ filter is_lost (range_with_len 0 n)) (sym lost-none) ∙ filter_from 0 n (omega arith) ∙ ap (lost_below squares codes) all
