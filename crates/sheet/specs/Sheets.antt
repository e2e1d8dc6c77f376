-- What stands in a row of a plan's sheet.
use Rattle.std.specs.Prelude.{◌≡◌, List, ℕ, ◌≤◌, ◌<◌, get_or}
use Rattle.plan.specs.Ranks.{Ranks}

-- a list holds f 0, f 1, .. up to a count, and 0 behind
pub record Reads (f : ℕ → ℕ) (count : ℕ) (xs : List ℕ) : Type 0 where
  pub inside : (c : ℕ) → c < count → get_or xs c 0 ≡ f c
  pub behind : (c : ℕ) → count ≤ c → get_or xs c 0 ≡ 0

-- the ranks of a row over one column period
pub record RowOf (m : Ranks) (row count : ℕ) (xs : List ℕ) : Type 0 where
  pub columns : count ≡ m.column_period
  pub ranks : Reads (m.rank row) count xs
