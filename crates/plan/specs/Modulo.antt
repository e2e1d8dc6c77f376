-- Rows or columns that repeat by a period p: numbers that are near one another modulo p.
use Rattle.std.specs.Prelude.{◌≡◌, ℕ, ◌+◌, ◌%◌, ◌<◌, ◌≤◌, ◌⊎◌, ◌≢◌, refl}
use Rattle.std.proofs.Common.{sym, ap, ◌∙◌, inl, inr, ⊎_elim, mod-lt, mod-eq_of_lt, arith}
use Rattle.std.proofs.Math.Nat.{mod-add-mod, mod_self}
use Rattle.std.proofs.lemmas.Bool.{cases_order, cases_lt}
use Rattle.plan.specs.Layers.{across}
use Rattle.plan.specs.Plane.{NearModulo}
use Rattle.plan.specs.Ranks.{Near}

-- the next number modulo p
pub next_mod : (p x : ℕ) → 2 ≤ p → ((x % p + 1 < p) × ((x + 1) % p ≡ x % p + 1)) ⊎ ((x % p + 1 ≡ p) × ((x + 1) % p ≡ 0))
next_mod p x two =
    let below : x % p < p = mod-lt x (omega arith) in
    let moved : (x % p + 1) % p ≡ (x + 1) % p = mod-add-mod x p 1 in
    ⊎_elim
    (λ (h : x % p + 1 < p). inl (h, sym moved ∙ mod-eq_of_lt h))
    (λ (h : p ≤ x % p + 1).
    let e : x % p + 1 ≡ p = omega arith in
    inr (e, sym moved ∙ ap (λ n. n % p) e ∙ mod_self p))
    (cases_lt (x % p + 1) p)

pub next_other : (p x : ℕ) → 2 ≤ p → (x + 1) % p ≢ x % p
next_other p x two e = ⊎_elim (λ h. omega (arith, h.0, h.1)) (λ h. omega (arith, h.0, h.1)) (next_mod p x two)

-- of two numbers that differ by at most one
pub near_cases : (a b : ℕ) → Near a b → (a ≡ b) ⊎ ((b ≡ a + 1) ⊎ (a ≡ b + 1))
near_cases a b h =
    ⊎_elim (λ e. inl e)
    (⊎_elim (λ (l : a < b). inr (inl (omega arith))) (λ (l : b < a). inr (inr (omega arith))))
    (cases_order a b)

-- they are equal if they are equal modulo a period
pub near_equal : (p a b : ℕ) → 2 ≤ p → Near a b → a % p ≡ b % p → a ≡ b
near_equal p a b two h e =
    ⊎_elim (λ k. k)
    (⊎_elim
    (λ (k : b ≡ a + 1). absurd (next_other p a two (ap (λ n. n % p) (sym k) ∙ sym e)))
    (λ (k : a ≡ b + 1). absurd (next_other p b two (ap (λ n. n % p) (sym k) ∙ e))))
    (near_cases a b h)

-- numbers that are near modulo p have near numbers with the same remainders
pub record Lifted (p a b : ℕ) : Type 0 where
  pub first : ℕ
  pub second : ℕ
  pub near : Near first second
  pub first_is : first % p ≡ a % p
  pub second_is : second % p ≡ b % p

pub lift : (p a b : ℕ) → NearModulo p a b → Lifted p a b
lift p a b =
    ⊎_elim
    (λ e. record { first = a; second = a; near = omega arith; first_is = refl; second_is = e })
    (⊎_elim
    (λ e. record { first = a; second = a + 1; near = omega arith; first_is = refl; second_is = sym e })
    (λ e. record { first = b + 1; second = b; near = omega arith; first_is = sym e; second_is = refl }))

pub turn_near : (p a b : ℕ) → NearModulo p a b → NearModulo p b a
turn_near p a b = ⊎_elim (λ e. inl (sym e)) (⊎_elim (λ e. inr (inr e)) (λ e. inr (inl e)))

-- counted from the other end of the period, the next number lies one before
pub across_next : (q x : ℕ) → 2 ≤ q → across q x % q ≡ (across q (x + 1) + 1) % q
across_next q x two =
    ⊎_elim
    (λ h. ap (λ n. n % q) (omega (arith, h.0, h.1)))
    (λ h.
    let first : across q x ≡ 0 = omega (arith, h.0) in
    let last : across q (x + 1) + 1 ≡ q = omega (arith, h.1) in
    ap (λ n. n % q) first ∙ mod-eq_of_lt (omega arith) ∙ sym (mod_self q) ∙ ap (λ n. n % q) (sym last))
    (next_mod q x two)
