-- What a plan means: its two periods, its top and its rank at each row and column; and the laws of these.
use Rattle.std.specs.Prelude.{◌≡◌, ℕ, ◌+◌, ◌%◌, ◌≤◌, ◌≢◌}

pub record Ranks : Type 0 where
  pub row_period : ℕ
  pub column_period : ℕ
  pub top : ℕ
  pub rank : ℕ → ℕ → ℕ

-- two numbers that differ by at most one
pub record Near (a b : ℕ) : Type 0 where
  pub above : a ≤ b + 1
  pub below : b ≤ a + 1

-- two different squares that touch by a side or a corner. Rows and columns are natural numbers here; specs/Plane.antt has the plane that
-- is unbounded on every side, where the same follows from the laws.
pub record Touch (r c r' c' : ℕ) : Type 0 where
  pub rows : Near r r'
  pub columns : Near c c'
  pub other : r ≡ r' → c ≢ c'

abbrev pub Apart : (ℕ → ℕ → ℕ) → Type 0
Apart rank = (r c r' c' : ℕ) → Touch r c r' c' → rank r c ≢ rank r' c'

-- the limits of a period
pub record Period (p : ℕ) : Type 0 where
  pub least : 2 ≤ p
  pub most : p ≤ 16

pub record Lawful (m : Ranks) : Type 0 where
  pub row_period : Period m.row_period
  pub column_period : Period m.column_period
  pub byte : m.top ≤ 255
  -- a rank depends only on the row modulo the row period and the column modulo the column period
  pub repeats : (r c : ℕ) → m.rank r c ≡ m.rank (r % m.row_period) (c % m.column_period)
  -- no rank is above the top
  pub capped : (r c : ℕ) → m.rank r c ≤ m.top
  -- squares that touch have different ranks
  pub apart : Apart m.rank
