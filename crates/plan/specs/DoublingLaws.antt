-- The doubling plans keep the laws, by induction on the order.
use Rattle.std.specs.Prelude.{◌≡◌, ℕ, zero, suc, ◌+◌, ◌-◌, ◌*◌, ◌/◌, ◌%◌, ◌^◌, ◌<◌, ◌≤◌, T, leb, List, [], ◌∷◌, nat_le, slice_index, refl}
use Rattle.std.proofs.Common.{sym, ap₂, ◌∙◌, not-suc-le-zero, arith, lit≤, lit<}
use Rattle.std.proofs.Math.Nat.{mod-mod, mod-mod_of_dvd, dvd-mul_left, pow-succ'}
use Rattle.plan.specs.Ranks.{Lawful, Apart, Period}
use Rattle.plan.specs.Doubling.{corner_rank, doubling, doubling_plan}
use Rattle.plan.specs.Blocks.{from_every}
use Rattle.plan.specs.TableLaws.{tabled_repeats, repeating_apart}
use Rattle.std.proofs.lemmas.Bool.{leb-true, le-leb}

corners : List ℕ
corners = 0 ∷ 2 ∷ 3 ∷ 1 ∷ []

pub square_below : (r c : ℕ) → corner_rank r c ≤ 3
unfolding corners corner_rank
square_below r c =
    (from_every (λ k. leb (slice_index corners k) 3) (λ k. slice_index corners k ≤ 3) (λ k. (leb-true _ _, le-leb _ _)) 4).0 refl
    ((r % 2) * 2 + c % 2) (omega arith)

-- the step, at an order that is not written as a successor
pub doubling-step : (k r c s : ℕ) → 2 ≤ k → s ≡ 2 ^ (k - 1)
    → doubling k r c ≡ 4 * doubling (k - 1) (r % s) (c % s) + corner_rank (r % (2 * s) / s) (c % (2 * s) / s)
unfolding doubling
doubling-step zero r c s two e = omega arith
doubling-step (suc zero) r c s two e = omega arith
doubling-step (suc (suc n)) r c s two e =
    let k : suc (suc n) - 1 ≡ suc n = omega arith in
    rw (e, k)

pub doubling-below : (k r c : ℕ) → doubling k r c < 4 ^ k
unfolding doubling
doubling-below zero r c = lit< tt
doubling-below (suc zero) r c = omega (arith, square_below r c)
doubling-below (suc (suc n)) r c =
    let s = 2 ^ suc n in
    omega (arith, doubling-below (suc n) (r % s) (c % s), square_below (r % (2 * s) / s) (c % (2 * s) / s), pow-succ' 4 (suc n))

double : (k : ℕ) → 2 ^ suc k ≡ 2 * 2 ^ k
double k = pow-succ' 2 k

inner : (k x : ℕ) → x % 2 ^ suc k % 2 ^ k ≡ x % 2 ^ k
inner k x = rw (double k) (mod-mod_of_dvd (2 ^ k) x (dvd-mul_left (2 ^ k) 2))

pub doubling_repeats : (n r c : ℕ) → doubling (suc n) r c ≡ doubling (suc n) (r % 2 ^ suc n) (c % 2 ^ suc n)
unfolding doubling corner_rank
doubling_repeats zero r c = tabled_repeats 2 2 (0 ∷ 2 ∷ 3 ∷ 1 ∷ []) r c
doubling_repeats (suc n) r c =
    let s = 2 ^ suc n in
    let outer : (x : ℕ) → x % 2 ^ suc (suc n) % (2 * s) ≡ x % (2 * s) = λ x. rw (double (suc n)) (mod-mod x (2 * s)) in
    ap₂ (λ a b. 4 * a + b)
    (ap₂ (doubling (suc n)) (sym (inner (suc n) r)) (sym (inner (suc n) c)))
    (ap₂ (λ a b. corner_rank (a / s) (b / s)) (sym (outer r)) (sym (outer c)))

pub doubling_apart : (n : ℕ) → Apart (doubling (suc n))
unfolding doubling corner_rank
doubling_apart zero r c r' c' touch same = repeating_apart corner_rank 2 2 (tabled_repeats 2 2 (0 ∷ 2 ∷ 3 ∷ 1 ∷ [])) (lit≤ tt) (lit≤ tt) refl r c r' c' touch same
doubling_apart (suc n) r c r' c' touch same =
    let s = 2 ^ suc n in
    let low = square_below (r % (2 * s) / s) (c % (2 * s) / s) in
    let low' = square_below (r' % (2 * s) / s) (c' % (2 * s) / s) in
    let high : doubling (suc n) (r % s) (c % s) ≡ doubling (suc n) (r' % s) (c' % s) = omega arith in
    doubling_apart n r c r' c' touch (doubling_repeats n r c ∙ high ∙ sym (doubling_repeats n r' c'))

lawful_at : (n : ℕ) → Period (2 ^ suc n) → 4 ^ suc n - 1 ≤ 255 → Lawful (doubling_plan (suc n))
lawful_at n period byte = record {
  row_period = period;
  column_period = period;
  byte = byte;
  repeats = doubling_repeats n;
  capped = λ r c. omega (arith, doubling-below (suc n) r c);
  apart = doubling_apart n;
}

-- what holds at the four orders
pub at_orders : (P : ℕ → Type 0) → P 1 → P 2 → P 3 → P 4 → (k : ℕ) → 1 ≤ k → k ≤ 4 → P k
at_orders P a b c d zero one four = absurd (not-suc-le-zero one)
at_orders P a b c d (suc zero) one four = a
at_orders P a b c d (suc (suc zero)) one four = b
at_orders P a b c d (suc (suc (suc zero))) one four = c
at_orders P a b c d (suc (suc (suc (suc zero)))) one four = d
at_orders P a b c d (suc (suc (suc (suc (suc n))))) one four = absurd (omega arith)

pub doubled_lawful : (k : ℕ) → 1 ≤ k → k ≤ 4 → Lawful (doubling_plan k)
doubled_lawful =
    at_orders (λ k. Lawful (doubling_plan k)) (at 0 tt tt tt) (at 1 tt tt tt) (at 2 tt tt tt) (at 3 tt tt tt)
  where
    at : (n : ℕ) → T (nat_le 2 (2 ^ suc n)) → T (nat_le (2 ^ suc n) 16) → T (nat_le (4 ^ suc n - 1) 255) → Lawful (doubling_plan (suc n))
    at n least most byte = lawful_at n (record { least = lit≤ least; most = lit≤ most }) (lit≤ byte)

-- the top is the number of squares of one period, less one
pub squared : (k s : ℕ) → 1 ≤ k → k ≤ 4 → s ≡ 2 ^ k → (s * s ≡ 4 ^ k) × (1 ≤ s * s) × (s * s ≤ 256)
squared k s one four e =
    rw e
    (at_orders (λ k. (2 ^ k * 2 ^ k ≡ 4 ^ k) × (1 ≤ 2 ^ k * 2 ^ k) × (2 ^ k * 2 ^ k ≤ 256))
    (refl, lit≤ tt, lit≤ tt) (refl, lit≤ tt, lit≤ tt) (refl, lit≤ tt, lit≤ tt) (refl, lit≤ tt, lit≤ tt) k one four)

-- a rank of the order below leaves room for the step
pub rank_below : (k r c x : ℕ) → 1 ≤ k → k ≤ 4 → x ≡ doubling (k - 1) r c → x ≤ 63
rank_below k r c x one four e =
    omega (arith, doubling-below (k - 1) r c, at_orders (λ n. 4 ^ (n - 1) ≤ 64) (lit≤ tt) (lit≤ tt) (lit≤ tt) (lit≤ tt) k one four)

pub corner_below : (r c x : ℕ) → x ≡ corner_rank r c → x ≤ 3
corner_below r c x e = omega (arith, square_below r c)
