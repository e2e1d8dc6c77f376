-- The parts of an error add up to it, unless there is nobody to receive them.
use Rattle.std.proofs.Common.{◌≡◌, ℕ, suc, ◌<◌, ◌≤◌, Bool, true, false, cond, eqb, ◌⊎◌, is_some, Some, None, Option, sym, refl, ap, ◌∙◌, inl, inr, arith}
use Rattle.std.proofs.lemmas.Bool.{cases_eq, cases_lt, cases_Bool, cond-true, cond-false, eq-eqb, ne_eqb, eqb-true, eqb-false, both_ways}
use Rattle.tone.specs.Algebra.{Algebra, Lawful}
use Rattle.tone.specs.Sums.{total}
use Rattle.tone.proofs.Groups.{neutral_left}
use Rattle.tone.proofs.Totals.{total-same, total_zero, total-sum, total_single}
use Rattle.grid.specs.Directions.{weight}
use Rattle.diffusion.specs.Neighbourhoods.{Neighbourhood, higher, weights, last, baron}
use Rattle.diffusion.specs.Draft.{shared, shared_before, sends}
use Rattle.diffusion.specs.Theorems.{AddsUp, SharesOut}

module _ (squares : Neighbourhood) (s : ℕ) where
  -- the last direction, or none
  pub last_is : (n : ℕ) → n ≤ 8
      → ((last squares s n ≡ 8) × ((d : ℕ) → d < n → is_some (higher squares s d) ≡ false)) ⊎ ((last squares s n < n) × (is_some (higher squares s (last squares s n)) ≡ true))
  unfolding last
  last_is ℕ.zero h = inl (refl, λ d l. absurd (omega arith))
  last_is (suc n) h = elim (cases_Bool (is_some (higher squares s n))) [
    | inl e ↦ let now : cond (is_some (higher squares s n)) n (last squares s n) ≡ n = cond-true _ _ _ e in
        inr (rw now (omega arith), rw now e)
    | inr e ↦ let now : cond (is_some (higher squares s n)) n (last squares s n) ≡ last squares s n = cond-false _ _ _ e in
        elim (last_is n (omega arith)) [
          | inl k ↦ inl (now ∙ k.0, λ d l. elim (cases_eq d n) [ inl q ↦ ap (λ i. is_some (higher squares s i)) q ∙ e | inr ne ↦ k.1 d (omega arith) ])
          | inr k ↦ inr (rw now (omega (arith, k.0)), rw now k.1)
        ]
  ]

module _ {T : Type 0} (tone : Algebra T) (squares : Neighbourhood) (s : ℕ) (e : T) where
  pub sends_none : (d : ℕ) → d < 8 → is_some (higher squares s d) ≡ false → sends tone squares s e d ≡ tone.zero
  unfolding sends
  sends_none d l h =
      cond-false (eqb d (last squares s 8)) _ _ (ne_eqb d (last squares s 8) not_last)
      ∙ cond-false (is_some (higher squares s d)) _ _ h
    where
      not_last : d ≡ last squares s 8 → ⊥
      not_last q = elim (last_is squares s 8 (omega arith)) [
        | inl k ↦ omega (arith, k.0)
        | inr k ↦ both_ways (is_some (higher squares s d)) h (ap (λ i. is_some (higher squares s i)) q ∙ k.1)
      ]

  pub parts_sum : Lawful tone → total tone (sends tone squares s e) 8 ≡ cond (baron squares s) tone.zero e
  unfolding sends
  parts_sum lawful = elim (last_is squares s 8 (omega arith)) [
    | inl k ↦ total_zero tone lawful _ 8 (λ d l. sends_none d l (k.1 d l))
        ∙ sym (cond-true (baron squares s) _ _ (eq-eqb (last squares s 8) 8 k.0))
    | inr k ↦ whole k.0
        ∙ sym (cond-false (baron squares s) _ _ (ne_eqb (last squares s 8) 8 (λ q. omega (arith, k.0))))
  ]
    where
      fork : (b : Bool) (x y : T) → cond b x y ≡ tone.sum (cond b x tone.zero) (cond b tone.zero y)
      fork true x y = sym (lawful.neutral x)
      fork false x y = sym (neutral_left tone lawful y)

      whole : last squares s 8 < 8 → total tone (sends tone squares s e) 8 ≡ e
      whole l =
          let rest : T = tone.difference e (total tone (shared_before tone squares s e) 8) in
          total-same tone _ _ 8 (λ d ld. fork (eqb d (last squares s 8)) rest (shared tone squares s e d))
          ∙ total-sum tone lawful (λ d. cond (eqb d (last squares s 8)) rest tone.zero) (shared_before tone squares s e) 8
          ∙ ap (λ a. tone.sum a (total tone (shared_before tone squares s e) 8)) (total_single tone lawful (last squares s 8) (λ d. rest) 8 l)
          ∙ lawful.back e (total tone (shared_before tone squares s e) 8)

pub adds_up : {T : Type 0} (tone : Algebra T) → Lawful tone → (squares : Neighbourhood) (s : ℕ) (e : T) → AddsUp tone squares s e
adds_up tone lawful squares s e = record {
  whole = λ some. parts_sum tone squares s e lawful ∙ cond-false (baron squares s) tone.zero e some;
  nothing = sends_none tone squares s e;
  alone = λ is d l. elim (last_is squares s 8 (omega arith)) [
    | inl k ↦ absent (higher squares s d) (k.1 d l)
    | inr k ↦ absurd (omega (arith, k.0, eqb-true (last squares s 8) 8 is))
  ];
  accompanied = λ isnt. elim (last_is squares s 8 (omega arith)) [
    | inl k ↦ absurd (eqb-false (last squares s 8) 8 isnt k.0)
    | inr k ↦ (last squares s 8, (present (higher squares s (last squares s 8)) k.1).0, k.0, (present (higher squares s (last squares s 8)) k.1).1)
  ];
}
  where
    absent : (o : Option ℕ) → is_some o ≡ false → o ≡ None
    absent None h = refl
    absent (Some t) h = absurd (both_ways true h refl)

    present : (o : Option ℕ) → is_some o ≡ true → (t : ℕ) × (o ≡ Some t)
    present None h = absurd (both_ways false refl h)
    present (Some t) h = (t, refl)

-- there is no higher neighbour after the last
last_past : (squares : Neighbourhood) (s n i : ℕ) → n ≤ 8 → last squares s n < i → i < n → is_some (higher squares s i) ≡ false
unfolding last
last_past squares s ℕ.zero i h l m = absurd (omega arith)
last_past squares s (suc n) i h l m = elim (cases_Bool (is_some (higher squares s n))) [
  | inl e ↦
      let now : cond (is_some (higher squares s n)) n (last squares s n) ≡ n = cond-true _ _ _ e in
      absurd (omega (arith, rw now at l))
  | inr e ↦
      let now : cond (is_some (higher squares s n)) n (last squares s n) ≡ last squares s n = cond-false _ _ _ e in
      let before : last squares s n < i = rw now at l in
      elim (cases_eq i n) [
        | inl q ↦ ap (λ k. is_some (higher squares s k)) q ∙ e
        | inr ne ↦ last_past squares s n i (omega arith) before (omega arith)
      ]
]

-- nor is a higher neighbour after the last
not_after : (squares : Neighbourhood) (s d t : ℕ) → d < 8 → higher squares s d ≡ Some t → d ≤ last squares s 8
not_after squares s d t l h = elim (cases_lt (last squares s 8) d) [
  | inl past ↦ absurd (both_ways (is_some (higher squares s d)) (last_past squares s 8 d (omega arith) past l) (ap is_some h))
  | inr le ↦ le
]

module _ {T : Type 0} (tone : Algebra T) (squares : Neighbourhood) (s : ℕ) (e : T) where
  sends_share : (d t i u : ℕ) → d < i → i < 8 → higher squares s d ≡ Some t → higher squares s i ≡ Some u
      → sends tone squares s e d ≡ tone.share e (weight d) (weights squares s 8)
  unfolding sends
  sends_share d t i u l li h k =
      let le = not_after squares s i u li k in
      cond-false (eqb d (last squares s 8)) _ _ (ne_eqb d (last squares s 8) (λ q. omega arith)) ∙ cond-true (is_some (higher squares s d)) _ _ (ap is_some h)

  -- the direction with no higher neighbour after it is the last
  is_last : (d t : ℕ) → d < 8 → higher squares s d ≡ Some t → ((i : ℕ) → d < i → i < 8 → higher squares s i ≡ None) → d ≡ last squares s 8
  is_last d t l h none = elim (last_is squares s 8 (omega arith)) [
    | inl k ↦ absurd (both_ways (is_some (higher squares s d)) (k.1 d l) (ap is_some h))
    | inr k ↦
        let le = not_after squares s d t l h in
        elim (cases_lt d (last squares s 8)) [
          | inl lt ↦ absurd (both_ways (is_some (higher squares s (last squares s 8))) (ap is_some (none (last squares s 8) lt k.0)) k.1)
          | inr ge ↦ omega arith
        ]
  ]

  sends_rest : (d t : ℕ) → d < 8 → higher squares s d ≡ Some t → ((i : ℕ) → d < i → i < 8 → higher squares s i ≡ None)
      → sends tone squares s e d ≡ tone.difference e (total tone (λ i. cond (eqb i d) tone.zero (sends tone squares s e i)) 8)
  unfolding sends
  sends_rest d t l h none =
      let is = is_last d t l h none in
      let rest : T = tone.difference e (total tone (shared_before tone squares s e) 8) in
      cond-true (eqb d (last squares s 8)) _ _ (eq-eqb d (last squares s 8) is)
      ∙ ap (tone.difference e) (total-same tone _ _ 8 (λ i li.
      again (eqb i (last squares s 8)) rest (shared tone squares s e i)
      ∙ ap (λ m. cond (eqb i m) tone.zero (cond (eqb i (last squares s 8)) rest (shared tone squares s e i))) (sym is)))
    where
      again : (b : Bool) (x y : T) → cond b tone.zero y ≡ cond b tone.zero (cond b x y)
      again true x y = refl
      again false x y = refl

  pub shares_out : SharesOut tone squares s e
  shares_out = record { rest = sends_rest; share = sends_share }
