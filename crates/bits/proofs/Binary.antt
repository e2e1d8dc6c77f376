-- Binary numbers of bits, and the length of packed bits.
use Rattle.std.proofs.Common.{◌≡◌, ℕ, zero, suc, ◌+◌, ◌*◌, ◌^◌, ◌<◌, ◌≤◌, Bool, true, false, cond, List, length, refl, pow-suc, add-one, arith, pow_mono}
use Rattle.std.proofs.lemmas.List.FromFn.{length-map-range_with_len}
use Rattle.bits.specs.Bits.{binary, bit_at, packed}

cond_le : (b : Bool) → cond b 1 0 ≤ 1
cond_le true = omega arith
cond_le false = omega arith

pub bit_at_le : (marks : ℕ → Bool) (codes : List ℕ) (k : ℕ) → bit_at marks codes k ≤ 1
bit_at_le marks codes k = cond_le _

pub binary_lt : (f : ℕ → ℕ) → ((k : ℕ) → f k ≤ 1) → (n : ℕ) → binary f n < 2 ^ n
unfolding binary
binary_lt f one zero = omega arith
binary_lt f one (suc n) = omega (arith, binary_lt f one n, one n, pow-suc 2 n)

pub binary_more : (f : ℕ → ℕ) (n : ℕ) → binary f (n + 1) ≡ binary f n * 2 + f n
unfolding binary
binary_more f n = rw add-one refl

-- before the eighth bit there is room for one more
pub binary_room : (f : ℕ → ℕ) → ((k : ℕ) → f k ≤ 1) → (n : ℕ) → n < 8 → binary f n < 128
binary_room f one n h = omega (arith, binary_lt f one n, pow_mono {i = n} {j = 7} (omega arith))

pub length-packed : (marks : ℕ → Bool) (n : ℕ) (codes : List ℕ) → length (packed marks n codes) ≡ n
length-packed marks n codes = length-map-range_with_len _ 0 n
