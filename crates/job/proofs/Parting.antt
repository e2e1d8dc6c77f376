-- The parts of an error, one direction after the other: the steps of the loop that hands them out.
use Rattle.std.proofs.Common.{◌≡◌, ℕ, suc, ◌+◌, ◌-◌, ◌%◌, ◌<◌, ◌≤◌, Bool, true, false, cond, eqb, List, get_or, set, is_some, Some, None, Option, sym, refl, ap, ◌∙◌, ap₂, inl, inr, add-one, arith}
use Rattle.std.proofs.lemmas.Bool.{cases_eq, cases_Bool, cond-true, cond-false, eq-eqb, ne_eqb, both_ways, false≢true}
use Rattle.tone.specs.Algebra.{Algebra, Lawful}
use Rattle.tone.specs.Sums.{total}
use Rattle.tone.proofs.Totals.{total_more}
use Rattle.grid.specs.Directions.{weight}
use Rattle.diffusion.specs.Bands.{put, spread}
use Rattle.diffusion.specs.Draft.{shared_before, sends}
use Rattle.diffusion.specs.Neighbourhoods.{Neighbourhood, higher, weights, last}

module _ (squares : Neighbourhood) (s : ℕ) where
  -- no higher neighbour lies behind the last
  pub up_to_last : (n : ℕ) → n ≤ 8 → (d : ℕ) → d < n → is_some (higher squares s d) ≡ true → d ≤ last squares s n
  unfolding last
  up_to_last ℕ.zero h d l is = absurd (omega arith)
  up_to_last (suc n) h d l is = elim (cases_Bool (is_some (higher squares s n))) [
    | inl e ↦ rw (cond-true (is_some (higher squares s n)) n (last squares s n) e) (omega arith)
    | inr e ↦ rw (cond-false (is_some (higher squares s n)) n (last squares s n) e) (elim (cases_eq d n) [
      | inl q ↦ absurd (both_ways (is_some (higher squares s d)) (ap (λ i. is_some (higher squares s i)) q ∙ e) is)
      | inr ne ↦ up_to_last n (omega arith) d (omega arith) is
    ])
  ]

  -- where there is no last, there is none
  pub none_higher : (n : ℕ) → n ≤ 8 → last squares s n ≡ 8 → (d : ℕ) → d < n → higher squares s d ≡ None
  unfolding last
  none_higher ℕ.zero h is d l = absurd (omega arith)
  none_higher (suc n) h is d l = elim (cases_Bool (is_some (higher squares s n))) [
    | inl e ↦ absurd (let m : n ≡ 8 = sym (cond-true (is_some (higher squares s n)) n (last squares s n) e) ∙ is in omega arith)
    | inr e ↦ elim (cases_eq d n) [
      | inl q ↦ ap (higher squares s) q ∙ lacks (higher squares s n) e
      | inr ne ↦ none_higher n (omega arith) (sym (cond-false (is_some (higher squares s n)) n (last squares s n) e) ∙ is) d (omega arith)
    ]
  ]
    where
      lacks : (o : Option ℕ) → is_some o ≡ false → o ≡ None
      lacks None f = refl
      lacks (Some t) f = absurd (false≢true (sym f))

module _ {T : Type 0} (tone : Algebra T) (lawful : Lawful tone) (squares : Neighbourhood) (s : ℕ) (e : T) where
  -- what the others receive, up to a direction: one that has no higher neighbour or is the last adds nothing
  before_none : (d : ℕ) → shared_before tone squares s e d ≡ tone.zero → total tone (shared_before tone squares s e) (d + 1) ≡ total tone (shared_before tone squares s e) d
  before_none d z = total_more tone (shared_before tone squares s e) d ∙ ap (tone.sum (total tone (shared_before tone squares s e) d)) z ∙ lawful.neutral _

  zero_fork : (b : Bool) → cond b tone.zero tone.zero ≡ tone.zero
  zero_fork true = refl
  zero_fork false = refl

  pub before_other : (d : ℕ) → is_some (higher squares s d) ≡ false → total tone (shared_before tone squares s e) (d + 1) ≡ total tone (shared_before tone squares s e) d
  before_other d h = before_none d (ap (cond (eqb d (last squares s 8)) tone.zero) (cond-false (is_some (higher squares s d)) _ _ h) ∙ zero_fork (eqb d (last squares s 8)))

  -- a share more
  pub before_share : (d : ℕ) → is_some (higher squares s d) ≡ true → (d ≡ last squares s 8 → ⊥)
      → total tone (shared_before tone squares s e) (d + 1) ≡ tone.sum (total tone (shared_before tone squares s e) d) (tone.share e (weight d) (weights squares s 8))
  before_share d h ne =
      total_more tone (shared_before tone squares s e) d
      ∙ ap (tone.sum (total tone (shared_before tone squares s e) d)) (cond-false (eqb d (last squares s 8)) _ _ (ne_eqb d (last squares s 8) ne) ∙ cond-true (is_some (higher squares s d)) _ _ h)

  -- nothing is added from the last on
  after_last : (k : ℕ) → last squares s 8 + k ≤ 8 → total tone (shared_before tone squares s e) (last squares s 8 + k) ≡ total tone (shared_before tone squares s e) (last squares s 8)
  after_last ℕ.zero h = ap (total tone (shared_before tone squares s e)) (omega arith)
  after_last (suc k) h =
      let l = last squares s 8 in
      let next : l + suc k ≡ l + k + 1 = omega arith in
      ap (total tone (shared_before tone squares s e)) next ∙ before_none (l + k) (nothing k (omega arith)) ∙ after_last k (omega arith)
    where
      nothing : (k : ℕ) → last squares s 8 + k < 8 → shared_before tone squares s e (last squares s 8 + k) ≡ tone.zero
      nothing ℕ.zero h = cond-true (eqb (last squares s 8 + 0) (last squares s 8)) _ _ (eq-eqb (last squares s 8 + 0) (last squares s 8) (omega arith))
      nothing (suc k) h = elim (cases_Bool (is_some (higher squares s (last squares s 8 + suc k)))) [
        | inl e ↦ absurd (omega (arith, up_to_last squares s 8 (omega arith) (last squares s 8 + suc k) h e))
        | inr e ↦ ap (cond (eqb (last squares s 8 + suc k) (last squares s 8)) tone.zero) (cond-false (is_some (higher squares s (last squares s 8 + suc k))) _ _ e) ∙ zero_fork (eqb (last squares s 8 + suc k) (last squares s 8))
      ]

  -- the last receives what the others before it leave
  pub sends-last : (d : ℕ) → d < 8 → d ≡ last squares s 8 → sends tone squares s e d ≡ tone.difference e (total tone (shared_before tone squares s e) d)
  unfolding sends
  sends-last d l is =
      let l8 = last squares s 8 in
      let all : total tone (shared_before tone squares s e) 8 ≡ total tone (shared_before tone squares s e) d
      = upward d l is in
      cond-true (eqb d l8) _ _ (eq-eqb d l8 is) ∙ ap (tone.difference e) all
    where
      upward : (d : ℕ) → d < 8 → d ≡ last squares s 8 → total tone (shared_before tone squares s e) 8 ≡ total tone (shared_before tone squares s e) d
      upward d l is =
          let rest : last squares s 8 + (8 - d) ≡ 8 = omega arith in
          ap (total tone (shared_before tone squares s e)) (sym rest) ∙ after_last (8 - d) (omega arith) ∙ ap (total tone (shared_before tone squares s e)) (sym is)

  -- each other its share
  pub sends_share : (d : ℕ) → is_some (higher squares s d) ≡ true → (d ≡ last squares s 8 → ⊥) → sends tone squares s e d ≡ tone.share e (weight d) (weights squares s 8)
  unfolding sends
  sends_share d h ne = cond-false (eqb d (last squares s 8)) _ _ (ne_eqb d (last squares s 8) ne) ∙ cond-true (is_some (higher squares s d)) _ _ h

module _ {T : Type 0} (tone : Algebra T) (squares : Neighbourhood) (s : ℕ) (p : ℕ → T) (xs : List T) where
  pub spread_none : spread tone squares s p 0 xs ≡ xs
  unfolding spread
  spread_none = refl

  pub spread_other : (d : ℕ) → higher squares s d ≡ None → spread tone squares s p (d + 1) xs ≡ spread tone squares s p d xs
  unfolding spread
  spread_other d h = rw add-one (ap (λ o. put tone o (p d) (spread tone squares s p d xs)) h)

  pub spread-higher : (d t : ℕ) → higher squares s d ≡ Some t
      → spread tone squares s p (d + 1) xs ≡ set (spread tone squares s p d xs) t (tone.sum (get_or (spread tone squares s p d xs) t tone.zero) (p d))
  unfolding spread
  spread-higher d t h = rw add-one (ap (λ o. put tone o (p d) (spread tone squares s p d xs)) h)

  -- nothing is sent where there is no higher neighbour
  pub spread_nowhere : (n : ℕ) → ((d : ℕ) → d < n → higher squares s d ≡ None) → spread tone squares s p n xs ≡ xs
  spread_nowhere ℕ.zero none = spread_none
  spread_nowhere (suc n) none = ap (λ m. spread tone squares s p m xs) (omega arith) ∙ spread_other n (none n (omega arith)) ∙ spread_nowhere n (λ d l. none d (omega arith))

-- one turn of the loop that hands the parts out
module _ {T : Type 0} (tone : Algebra T) (lawful : Lawful tone) (squares : Neighbourhood) (s : ℕ) (e : T) (xs : List T) where
  -- what the loop keeps: the shares given so far, as long as the last is to come, and the amounts with the parts so far
  abbrev pub Handed : ℕ → T → List T → Type 0
  Handed d given amounts =
      (d ≤ last squares s 8 → given ≡ total tone (shared_before tone squares s e) d) × (amounts ≡ spread tone squares s (sends tone squares s e) d xs)

  -- the part that the code works out
  abbrev pub worked_part : ℕ → T → T
  worked_part d given =
      cond (eqb d (last squares s 8)) (tone.difference e given) (cond (eqb (d % 2) 0) (tone.share e 2 (weights squares s 8)) (tone.share e 1 (weights squares s 8)))

  by_weight : (b : Bool) (W : ℕ) → cond b (tone.share e 2 W) (tone.share e 1 W) ≡ tone.share e (cond b 2 1) W
  by_weight true W = refl
  by_weight false W = refl

  part_right : (d t : ℕ) (given : T) → d < 8 → higher squares s d ≡ Some t → given ≡ total tone (shared_before tone squares s e) d → worked_part d given ≡ sends tone squares s e d
  part_right d t given ld is so = elim (cases_eq d (last squares s 8)) [
    | inl q ↦ cond-true (eqb d (last squares s 8)) _ _ (eq-eqb d (last squares s 8) q) ∙ ap (tone.difference e) so ∙ sym (sends-last tone lawful squares s e d ld q)
    | inr ne ↦ cond-false (eqb d (last squares s 8)) _ _ (ne_eqb d (last squares s 8) ne) ∙ by_weight (eqb (d % 2) 0) (weights squares s 8) ∙ sym (sends_share tone lawful squares s e d (ap is_some is) ne)
  ]

  pub hand_higher : (d t : ℕ) (given part given' : T) (amounts amounts' : List T) → d < 8 → higher squares s d ≡ Some t → Handed d given amounts
      → part ≡ worked_part d given → given' ≡ tone.sum given part → amounts' ≡ set amounts t (tone.sum (get_or amounts t tone.zero) part) → Handed (d + 1) given' amounts'
  hand_higher d t given part given' amounts amounts' ld is inv part-is given_is amounts-is =
      let so : given ≡ total tone (shared_before tone squares s e) d = inv.0 (up_to_last squares s 8 (omega arith) d ld (ap is_some is)) in
      let right : part ≡ sends tone squares s e d = part-is ∙ part_right d t given ld is so in (
        λ more. given_is ∙ ap₂ tone.sum so (right ∙ sends_share tone lawful squares s e d (ap is_some is) (λ q. omega arith)) ∙ sym (before_share tone lawful squares s e d (ap is_some is) (λ q. omega arith)),
        amounts-is ∙ ap₂ (λ ys p. set ys t (tone.sum (get_or ys t tone.zero) p)) inv.1 right ∙ sym (spread-higher tone squares s (sends tone squares s e) xs d t is),
      )

  pub hand_other : (d : ℕ) (given : T) (amounts : List T) → higher squares s d ≡ None → Handed d given amounts → Handed (d + 1) given amounts
  hand_other d given amounts is inv = (
    λ more. inv.0 (omega arith) ∙ sym (before_other tone lawful squares s e d (ap is_some is)),
    inv.1 ∙ sym (spread_other tone squares s (sends tone squares s e) xs d is),
  )
