-- A line of numbers, such as the rows of a drawing or its columns: how many there are, and which comes after and before each. Where the
-- ends of a drawing lie is said here and nowhere else.
use Rattle.std.specs.Prelude.{ℕ, ◌+◌, ◌-◌, cond, Some, None, Option, nat_lt}
use Rattle.grid.specs.declared.direction.Step.{Step}
use Rattle.grid.specs.declared.direction.Step.TheVariants.{Back, Stay, Ahead}

pub record Line : Type 0 where
  pub size : ℕ
  pub next : ℕ → Option ℕ
  pub prev : ℕ → Option ℕ

-- none after the last, and none before the first
abbrev pub plain : ℕ → Line
plain n = record {
  size = n;
  next = λ x. cond (nat_lt (x + 1) n) (Some (x + 1)) None;
  prev = λ x. cond (nat_lt 0 x) (Some (x - 1)) None;
}

-- where a step along a line leads
abbrev pub step : Line → Step → ℕ → Option ℕ
step line Back x = line.prev x
step line Stay x = Some x
step line Ahead x = line.next x

-- the same from a number of the line, and nowhere from another
abbrev pub step_in : Line → Step → ℕ → Option ℕ
step_in line to x = cond (nat_lt x line.size) (step line to x) None
