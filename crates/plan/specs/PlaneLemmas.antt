-- Squares that touch modulo the periods, or anywhere on the unbounded plane, have different ranks.
use Rattle.std.specs.Prelude.{◌≡◌, ℕ, zero, suc, ◌+◌, ◌-◌, ◌%◌, ◌≤◌, ℤ, pos, negsuc, ◌+ℤ◌, nat_lt}
use Rattle.std.proofs.Common.{sym, ap, ap₂, ◌∙◌, inl, inr, ⊎_elim, add-one, arith}
use Rattle.std.proofs.Math.Nat.{mod-mod, mod-add-mod, mod_self, zero-mod}
use Rattle.std.proofs.lemmas.Bool.{cond-true, lt-ltb}
use Rattle.plan.specs.Layers.{across}
use Rattle.plan.specs.Plane.{NearModulo, DifferModuloPeriods, reduced, NearWhole, DifferOnThePlane}
use Rattle.plan.specs.Ranks.{Ranks, Touch, Lawful}
use Rattle.plan.specs.Modulo.{next_other, lift, across_next}

module _ (m : Ranks) (law : Lawful m) where
  -- squares with equal remainders have equal ranks
  pub alike : (r c r' c' : ℕ) → r % m.row_period ≡ r' % m.row_period → c % m.column_period ≡ c' % m.column_period → m.rank r c ≡ m.rank r' c'
  alike r c r' c' e f = law.repeats r c ∙ ap₂ m.rank e f ∙ sym (law.repeats r' c')

  pub modulo_apart : DifferModuloPeriods m
  modulo_apart r c r' c' near e =
      let p = m.row_period in
      let q = m.column_period in
      let u = lift p r r' near.rows in
      let v = lift q c c' near.columns in
      let touch : Touch u.first v.first u.second v.second = record {
        rows = u.near;
        columns = v.near;
        other = λ i j. near.other (sym u.first_is ∙ ap (λ n. n % p) i ∙ u.second_is) (sym v.first_is ∙ ap (λ n. n % q) j ∙ v.second_is);
      } in
      law.apart u.first v.first u.second v.second touch
      (alike u.first v.first r c u.first_is v.first_is ∙ e ∙ sym (alike u.second v.second r' c' u.second_is v.second_is))

-- the next row or column of the plane is the next modulo the period
reduced_next : (p : ℕ) → 2 ≤ p → (z : ℤ) → reduced p (z +ℤ pos 1) % p ≡ (reduced p z + 1) % p
reduced_next p two (pos n) = mod-mod (n + 1) p ∙ sym (mod-add-mod n p 1)
reduced_next p two (negsuc zero) =
    let none : 0 % p ≡ 0 = zero-mod p in
    let last : p - 1 - 0 % p + 1 ≡ p = omega (arith, none) in
    mod-mod 0 p ∙ none ∙ sym (mod_self p) ∙ ap (λ n. n % p) (sym last)
reduced_next p two (negsuc (suc n)) =
    let before : negsuc (suc n) +ℤ pos 1 ≡ negsuc n =
    cond-true (nat_lt 1 (suc (suc n))) _ _ (lt-ltb 1 (suc (suc n)) (omega arith)) ∙ ap negsuc (omega arith) in
    ap (λ z. reduced p z % p) before ∙ across_next p n two ∙ ap (λ k. (across p k + 1) % p) (add-one n)

-- numbers that are near on the plane are near modulo the period, and equal there only if they are the same
reduced_near : (p : ℕ) → 2 ≤ p → (a b : ℤ) → NearWhole a b → NearModulo p (reduced p a) (reduced p b)
reduced_near p two a b =
    ⊎_elim
    (λ e. inl (ap (λ z. reduced p z % p) e))
    (⊎_elim
    (λ (e : b ≡ a +ℤ pos 1). inr (inl (ap (λ z. reduced p z % p) e ∙ reduced_next p two a)))
    (λ (e : a ≡ b +ℤ pos 1). inr (inr (ap (λ z. reduced p z % p) e ∙ reduced_next p two b))))

reduced_other : (p : ℕ) → 2 ≤ p → (a b : ℤ) → NearWhole a b → reduced p a % p ≡ reduced p b % p → a ≡ b
reduced_other p two a b near k =
    ⊎_elim
    (λ e. e)
    (⊎_elim
    (λ (e : b ≡ a +ℤ pos 1). absurd (next_other p (reduced p a) two (sym (reduced_next p two a) ∙ ap (λ z. reduced p z % p) (sym e) ∙ sym k)))
    (λ (e : a ≡ b +ℤ pos 1). absurd (next_other p (reduced p b) two (sym (reduced_next p two b) ∙ ap (λ z. reduced p z % p) (sym e) ∙ k))))
    near

pub on_the_plane : (m : Ranks) → Lawful m → DifferOnThePlane m
on_the_plane m law =
    let p = m.row_period in
    let q = m.column_period in
    let tp = law.row_period.least in
    let tq = law.column_period.least in
    record {
      extends = λ r c. sym (law.repeats r c);
      apart = λ r c r' c' touch. modulo_apart m law (reduced p r) (reduced q c) (reduced p r') (reduced q c') (record {
        rows = reduced_near p tp r r' touch.rows;
        columns = reduced_near q tq c c' touch.columns;
        other = λ e f. touch.other (reduced_other p tp r r' touch.rows e) (reduced_other q tq c c' touch.columns f);
      });
    }
