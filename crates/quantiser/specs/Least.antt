-- The first number at which a function is smallest.
use Rattle.std.specs.Prelude.{ℕ, zero, suc, ◌<◌, ◌≤◌, cond, nat_lt}

-- of the numbers below n
unfoldable pub least : (ℕ → ℕ) → ℕ → ℕ
least f zero = 0
least f (suc n) = cond (nat_lt (f n) (f (least f n))) n (least f n)

-- the same as a relation: b is below n, none below n is smaller, and each before b is greater
pub record FirstSmallest (f : ℕ → ℕ) (n b : ℕ) : Type 0 where
  pub within : b < n
  pub smallest : (k : ℕ) → k < n → f b ≤ f k
  pub first : (k : ℕ) → k < b → f b < f k
