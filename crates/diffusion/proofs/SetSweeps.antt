-- A sweep of the ranks over a set of squares: it adds every wanted square, and no other.
use Rattle.std.proofs.Common.{◌≡◌, ℕ, suc, ◌+◌, ◌<◌, ◌≤◌, Bool, true, false, cond, not, ◌&&◌, eqb, ◌⊎◌, sym, refl, ap, ◌∙◌, ap₂, subst₂, inl, inr, ⊎_elim, arith}
use Rattle.std.proofs.lemmas.Bool.{cases_eq, cases_Bool, cond-true, cond-false, eq-eqb, and_parts, and_from, not-true, not_from_false, both_ways}
use Rattle.diffusion.specs.Neighbourhoods.{Neighbourhood, Laws}
use Rattle.diffusion.specs.Sets.{Closed, Ready, add, ready_by, lacking}
use Rattle.diffusion.specs.Sweeps.{due, visit, pass, passed, sweep, swept}
use Rattle.diffusion.proofs.Neighbours.{lower_near, lower-within}
use Rattle.diffusion.proofs.Fixing.{add_same, add_other, add_more, closed_after}
use Rattle.diffusion.proofs.SetBands.{decides_ready}

-- one more member is one less lacking
lacking_past : (F : ℕ → Bool) (s n : ℕ) → n ≤ s → lacking (add F s) n ≡ lacking F n
unfolding lacking
lacking_past F s ℕ.zero l = refl
lacking_past F s (suc n) l = ap₂ (λ x b. x + cond b 0 1) (lacking_past F s n (omega arith)) (add_other F s n (λ q. omega arith))

lacking-add : (F : ℕ → Bool) (s n : ℕ) → s < n → F s ≡ false → 1 + lacking (add F s) n ≡ lacking F n
unfolding lacking
lacking-add F s ℕ.zero l lacks = absurd (omega arith)
lacking-add F s (suc n) l lacks = elim (cases_eq n s) [
  | inl e ↦
      let past : lacking (add F s) n ≡ lacking F n = lacking_past F s n (omega arith) in
      let after : ◌≡◌ {A = ℕ} (cond (add F s n) 0 1) 0 = cond-true (add F s n) 0 1 (add_same F s n e) in
      let before : ◌≡◌ {A = ℕ} (cond (F n) 0 1) 1 = cond-false (F n) 0 1 (ap F e ∙ lacks) in
      omega arith
  | inr ne ↦
      let rest : 1 + lacking (add F s) n ≡ lacking F n = lacking-add F s n (omega arith) lacks in
      let same : ◌≡◌ {A = ℕ} (cond (add F s n) 0 1) (cond (F n) 0 1) = ap (λ b. cond b 0 1) (add_other F s n ne) in
      omega arith
]

pub lacking-none : (F : ℕ → Bool) (n : ℕ) → ((s : ℕ) → s < n → F s ≡ true) → lacking F n ≡ 0
unfolding lacking
lacking-none F ℕ.zero h = refl
lacking-none F (suc n) h =
    let rest : lacking F n ≡ 0 = lacking-none F n (λ s l. h s (omega arith)) in
    let here : ◌≡◌ {A = ℕ} (cond (F n) 0 1) 0 = cond-true (F n) 0 1 (h n (omega arith)) in
    omega arith

module _ (squares : Neighbourhood) (W : ℕ → Bool) where
  -- a visit leaves the set, or adds a ready place
  pub visit_is : (r : ℕ) (F : ℕ → Bool) (s : ℕ)
      → ((due squares W r F s ≡ false) × (visit squares W r F s ≡ F))
      ⊎ ((due squares W r F s ≡ true) × (visit squares W r F s ≡ add F s) × (F s ≡ false) × Ready squares F s × (W s ≡ true))
  visit_is r F s = elim (cases_Bool (due squares W r F s)) [
    | inr e ↦ inl (e, cond-false (due squares W r F s) (add F s) F e)
    | inl e ↦
        let i = (and_parts (eqb (squares.rank s) r) (W s && (not (F s) && ready_by squares F s 8)) e).1 in
        let k = and_parts (W s) (not (F s) && ready_by squares F s 8) i in
        let m = and_parts (not (F s)) (ready_by squares F s 8) k.1 in
        inr (e, cond-true (due squares W r F s) (add F s) F e, not-true (F s) m.0, (decides_ready squares F s).0 m.1, k.0)
  ]

-- from F, the wanted places of P are now in G, and c were added
pub record Grown (squares : Neighbourhood) (W : ℕ → Bool) (P : ℕ → Type 0) (F G : ℕ → Bool) (c : ℕ) : Type 0 where
  pub closed : Closed squares F → Closed squares G
  pub more : (s : ℕ) → F s ≡ true → G s ≡ true
  pub only : (s : ℕ) → G s ≡ true → (F s ≡ true) ⊎ (W s ≡ true)
  pub done : (s : ℕ) → s < squares.count → W s ≡ true → P s → G s ≡ true
  pub number : c + lacking G squares.count ≡ lacking F squares.count

module _ (squares : Neighbourhood) (laws : Laws squares) (W : ℕ → Bool) (wanted : Closed squares W) (r : ℕ) where
  abbrev Passed : (ℕ → Bool) → (ℕ → Bool) → ℕ → ℕ → Type 0
  Passed F G n c = Grown squares W (λ s. (squares.rank s ≡ r) × (s < n)) F G c

  visited : (F G : ℕ → Bool) (n c : ℕ) → ((s : ℕ) → s < squares.count → W s ≡ true → squares.rank s < r → F s ≡ true) → n < squares.count
      → Passed F G n c → Passed F (visit squares W r G n) (suc n) (c + cond (due squares W r G n) 1 0)
  visited F G n c below l k = elim (visit_is squares W r G n) [
    | inl q ↦ subst₂ (λ H x. Passed F H (suc n) (c + x)) (sym q.1) (sym (cond-false (due squares W r G n) 1 0 q.0)) (record {
      closed = k.closed;
      more = k.more;
      only = k.only;
      done = λ s ls w p. elim (cases_eq s n) [
        | inr ne ↦ k.done s ls w (p.0, omega (arith, p.1))
        | inl e ↦ elim (cases_Bool (G s)) [
          | inl has ↦ has
          | inr lacks ↦ absurd (both_ways (due squares W r G n) q.0
              (and_from _ _ (eq-eqb (squares.rank n) r (ap squares.rank (sym e) ∙ p.0))
              (and_from _ _ (ap W (sym e) ∙ w)
              (and_from _ _ (not_from_false (G n) (ap G (sym e) ∙ lacks)) ((decides_ready squares G n).1 (λ d t ld h.
              let low = (lower_near squares n d t h).1 in
              k.more t (below t (lower-within squares laws n d t l ld h) (wanted n d t l ld (ap W (sym e) ∙ w) h)
              (omega (arith, p.0, ap squares.rank e)))))))))
        ]
      ];
      number = omega (arith, k.number);
    })
    | inr q ↦ subst₂ (λ H x. Passed F H (suc n) (c + x)) (sym q.1) (sym (cond-true (due squares W r G n) 1 0 q.0)) (record {
      closed = λ h. closed_after squares G n (k.closed h) q.3;
      more = λ s h. add_more G n s (k.more s h);
      only = λ s h. elim (cases_eq s n) [ inl e ↦ inr (ap W e ∙ q.4) | inr ne ↦ k.only s (sym (add_other G n s ne) ∙ h) ];
      done = λ s ls w p. elim (cases_eq s n) [
        | inl e ↦ add_same G n s e
        | inr ne ↦ add_more G n s (k.done s ls w (p.0, omega (arith, p.1)))
      ];
      number = omega (arith, k.number, lacking-add G n squares.count l q.2);
    })
  ]

  pass_is : (F : ℕ → Bool) → ((s : ℕ) → s < squares.count → W s ≡ true → squares.rank s < r → F s ≡ true) → (n : ℕ) → n ≤ squares.count
      → Passed F (pass squares W r F n) n (passed squares W r F n)
  unfolding pass passed
  pass_is F below ℕ.zero l = record {
    closed = λ h. h;
    more = λ s h. h;
    only = λ s h. inl h;
    done = λ s ls w p. absurd (omega (arith, p.1));
    number = omega arith;
  }
  pass_is F below (suc n) l =
      visited F (pass squares W r F n) n (passed squares W r F n) below (omega arith) (pass_is F below n (omega arith))

pub sweep_is : (squares : Neighbourhood) → Laws squares → (W : ℕ → Bool) → Closed squares W → (F : ℕ → Bool) (r : ℕ)
    → Grown squares W (λ s. squares.rank s < r) F (sweep squares W F r) (swept squares W F r)
unfolding sweep swept
sweep_is squares laws W wanted F ℕ.zero = record {
  closed = λ h. h;
  more = λ s h. h;
  only = λ s h. inl h;
  done = λ s ls w p. absurd (omega arith);
  number = omega arith;
}
sweep_is squares laws W wanted F (suc r) =
    let k = sweep_is squares laws W wanted F r in
    let m = pass_is squares laws W wanted r (sweep squares W F r) k.done squares.count (omega arith) in
    record {
      closed = λ h. m.closed (k.closed h);
      more = λ s h. m.more s (k.more s h);
      only = λ s h. ⊎_elim (k.only s) inr (m.only s h);
      done = λ s ls w p. elim (cases_eq (squares.rank s) r) [ inl e ↦ m.done s ls w (e, ls) | inr ne ↦ m.more s (k.done s ls w (omega arith)) ];
      number = omega (arith, k.number, m.number);
    }
