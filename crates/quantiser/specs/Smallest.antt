-- What `least` is: a place below n, none is smaller there, and each before it is greater.
use Rattle.std.specs.Prelude.{◌≡◌, ℕ, zero, suc, ◌+◌, ◌<◌, ◌≤◌, Bool, true, false, cond, nat_lt, refl}
use Rattle.std.proofs.Common.{sym, ◌∙◌, ap, ⊎_elim, arith, add-one}
use Rattle.std.proofs.lemmas.Bool.{cond_both, ltb-true, ltb-false, cases_lt, cond-true, cond-false, lt-ltb, le-ltb}
use Rattle.quantiser.specs.Least.{least, FirstSmallest}

-- one place more
pub least_more : (f : ℕ → ℕ) (n : ℕ) → least f (n + 1) ≡ cond (nat_lt (f n) (f (least f n))) n (least f n)
unfolding least
least_more f n = rw add-one

pub least-none : (f : ℕ → ℕ) → least f 0 ≡ 0
unfolding least
least-none f = refl

pub least-below : (f : ℕ → ℕ) (n : ℕ) → least f n ≤ n
unfolding least
least-below f zero = omega arith
least-below f (suc n) = cond_both (nat_lt (f n) (f (least f n))) n (least f n) (λ k. k ≤ suc n) (λ e. omega arith) (λ e. omega (arith, least-below f n))

pub least_lt : (f : ℕ → ℕ) (n : ℕ) → least f (suc n) < suc n
unfolding least
least_lt f n = omega (arith, cond_both (nat_lt (f n) (f (least f n))) n (least f n) (λ k. k ≤ n) (λ e. omega arith) (λ e. least-below f n))

-- none is smaller
pub least_le : (f : ℕ → ℕ) (n k : ℕ) → k < n → f (least f n) ≤ f k
unfolding least
least_le f zero k h = absurd (omega arith)
least_le f (suc n) k h =
    cond_both (nat_lt (f n) (f (least f n))) n (least f n) (λ b. f b ≤ f k)
    (λ e. ⊎_elim (λ l. omega (arith, least_le f n k l, ltb-true (f n) (f (least f n)) e)) (λ l. let s : k ≡ n = omega arith in omega (arith, ap f s)) (cases_lt k n))
    (λ e. ⊎_elim (λ l. least_le f n k l) (λ l. let s : k ≡ n = omega arith in omega (arith, ap f s, ltb-false (f n) (f (least f n)) e)) (cases_lt k n))

-- each before it is greater
pub least_first : (f : ℕ → ℕ) (n k : ℕ) → k < least f n → f (least f n) < f k
unfolding least
least_first f zero k h = absurd (omega arith)
least_first f (suc n) k h = by (nat_lt (f n) (f (least f n))) refl (λ l. least_first f n k l) h
  where
    by : (t : Bool) → nat_lt (f n) (f (least f n)) ≡ t → (k < least f n → f (least f n) < f k) → k < cond t n (least f n) → f (cond t n (least f n)) < f k
    by true e r l = omega (arith, least_le f n k l, ltb-true (f n) (f (least f n)) e)
    by false e r l = r l

-- below n, where n is not 0
pub least-within : (f : ℕ → ℕ) (n : ℕ) → 1 ≤ n → least f n < n
least-within f zero h = absurd (omega arith)
least-within f (suc n) h = least_lt f n

-- a loop's step: x is f at n, y is f at the best so far
pub least_takes : (f : ℕ → ℕ) (n b x y : ℕ) → b ≡ least f n → x ≡ f n → y ≡ f b → x < y → n ≡ least f (n + 1)
least_takes f n b x y is p q h =
    let s : f b ≡ f (least f n) = ap f is in
    let t : f n < f (least f n) = omega arith in
    sym (least_more f n ∙ cond-true (nat_lt (f n) (f (least f n))) n (least f n) (lt-ltb (f n) (f (least f n)) t))

pub least_keeps : (f : ℕ → ℕ) (n b x y : ℕ) → b ≡ least f n → x ≡ f n → y ≡ f b → y ≤ x → b ≡ least f (n + 1)
least_keeps f n b x y is p q h =
    let s : f b ≡ f (least f n) = ap f is in
    let t : f (least f n) ≤ f n = omega arith in
    is ∙ sym (least_more f n ∙ cond-false (nat_lt (f n) (f (least f n))) n (least f n) (le-ltb (f n) (f (least f n)) t))

pub least_is : (f : ℕ → ℕ) (n : ℕ) → 1 ≤ n → FirstSmallest f n (least f n)
least_is f n h = record { within = least-within f n h; smallest = least_le f n; first = least_first f n }
