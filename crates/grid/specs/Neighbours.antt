-- The place of a square, and the neighbour of a square in a direction, for rows and columns that are any two lines.
use Rattle.std.specs.Prelude.{ℕ, ◌+◌, ◌*◌, cond, ◌&&◌, Some, None, Option, nat_lt}
use Rattle.grid.specs.Directions.{down, across}
use Rattle.grid.specs.Lines.{Line, step}

-- the squares are counted row by row; none outside
abbrev pub place_of : ℕ → ℕ → ℕ → ℕ → Option ℕ
place_of rows columns r c = cond (nat_lt r rows && nat_lt c columns) (Some (r * columns + c)) None

-- the place of a row and a column, where there are both
abbrev pub both : ℕ → Option ℕ → Option ℕ → Option ℕ
both columns None c = None
both columns (Some r) None = None
both columns (Some r) (Some c) = Some (r * columns + c)

-- the place of the neighbour of the square at (r, c) in the direction d; none where that lies off the drawing, and none of a square outside
abbrev pub neighbour : Line → Line → ℕ → ℕ → ℕ → Option ℕ
neighbour rows columns r c d =
    cond (nat_lt r rows.size && nat_lt c columns.size) (both columns.size (step rows (down d) r) (step columns (across d) c)) None
