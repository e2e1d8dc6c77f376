-- Squares that touch on the ring of one period, and on the plane that is unbounded on every side.
use Rattle.std.specs.Prelude.{◌≡◌, ℕ, ◌+◌, ◌-◌, ◌%◌, ◌⊎◌, ℤ, pos, negsuc, ◌+ℤ◌, ◌≢◌}
use Rattle.plan.specs.Ranks.{Ranks}

-- equal or one apart, modulo p
abbrev pub NearModulo : ℕ → ℕ → ℕ → Type 0
NearModulo p a b = (a % p ≡ b % p) ⊎ ((b % p ≡ (a + 1) % p) ⊎ (a % p ≡ (b + 1) % p))

-- two squares that touch modulo the periods, and are not the same square there
pub record TouchModulo (p q r c r' c' : ℕ) : Type 0 where
  pub rows : NearModulo p r r'
  pub columns : NearModulo q c c'
  pub other : r % p ≡ r' % p → c % q ≢ c' % q

abbrev pub DifferModuloPeriods : Ranks → Type 0
DifferModuloPeriods m = (r c r' c' : ℕ) → TouchModulo m.row_period m.column_period r c r' c' → m.rank r c ≢ m.rank r' c'

-- a row or a column of the plane, reduced to one period
abbrev pub reduced : ℕ → ℤ → ℕ
reduced p (pos n) = n % p
reduced p (negsuc n) = p - 1 - n % p

-- the rank at any row and column of the plane
abbrev pub plane_rank : Ranks → ℤ → ℤ → ℕ
plane_rank m r c = m.rank (reduced m.row_period r) (reduced m.column_period c)

-- equal or one apart
abbrev pub NearWhole : ℤ → ℤ → Type 0
NearWhole a b = (a ≡ b) ⊎ ((b ≡ a +ℤ pos 1) ⊎ (a ≡ b +ℤ pos 1))

pub record TouchOnPlane (r c r' c' : ℤ) : Type 0 where
  pub rows : NearWhole r r'
  pub columns : NearWhole c c'
  pub other : r ≡ r' → c ≢ c'

pub record DifferOnThePlane (m : Ranks) : Type 0 where
  -- the plan's own ranks, where rows and columns are not negative
  pub extends : (r c : ℕ) → plane_rank m (pos r) (pos c) ≡ m.rank r c
  pub apart : (r c r' c' : ℤ) → TouchOnPlane r c r' c' → plane_rank m r c ≢ plane_rank m r' c'
