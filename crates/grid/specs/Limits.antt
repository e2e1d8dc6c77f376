-- The limits of a drawing's size.
use Rattle.std.specs.Prelude.{◌≡◌, ℕ, ◌*◌, ◌≤◌, Bool, ◌&&◌, nat_le}

pub record Within (rows columns : ℕ) : Type 0 where
  pub tall : 1 ≤ rows
  pub low : rows ≤ 4096
  pub wide : 1 ≤ columns
  pub narrow : columns ≤ 4096
  pub small : rows * columns ≤ 1048576

-- the same as a test
abbrev pub within : ℕ → ℕ → Bool
within rows columns = nat_le 1 rows && (nat_le rows 4096 && (nat_le 1 columns && (nat_le columns 4096 && nat_le (rows * columns) 1048576)))

-- the number with which a size is refused: 1, outside the limits and only there
abbrev pub Refused : ℕ → ℕ → ℕ → Type 0
Refused rows columns n = (n ≡ 1) × (Within rows columns → ⊥)
