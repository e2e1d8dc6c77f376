-- The columns of a row that have a rank. They repeat with the plan's column period.
use Rattle.std.specs.Prelude.{◌≡◌, ℕ, ◌+◌, ◌%◌, ◌<◌, ◌≤◌, ◌≢◌, Some, None, Option}
use Rattle.plan.specs.Ranks.{Ranks}

-- the first column of a row with a rank, in a drawing with so many columns
pub record FirstAt (columns : ℕ) (plan : Ranks) (rank row first : ℕ) : Type 0 where
  pub inside : first < columns
  pub within : first < plan.column_period
  pub has : plan.rank row first ≡ rank
  pub before : (column : ℕ) → column < first → plan.rank row column ≢ rank

-- the same, where there is one
abbrev pub First : ℕ → Ranks → ℕ → ℕ → Option ℕ → Type 0
First columns plan rank row None = (column : ℕ) → column < columns → plan.rank row column ≢ rank
First columns plan rank row (Some first) = FirstAt columns plan rank row first

-- the columns of a row with a rank are those that lie whole periods from the first
pub record Lone (plan : Ranks) (rank row first : ℕ) : Type 0 where
  pub within : first < plan.column_period
  pub has : plan.rank row first ≡ rank
  pub only : (column : ℕ) → plan.rank row column ≡ rank → column % plan.column_period ≡ first

-- the squares of a row from one column to another touch neither its left edge nor its right; above and below all squares of a row are alike
pub record Between (columns from to : ℕ) : Type 0 where
  pub before : 1 ≤ from
  pub behind : to + 1 < columns
