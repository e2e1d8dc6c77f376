-- A square of a drawing by its row, its column and its place in reading order.
use Rattle.std.specs.Prelude.{◌≡◌, ℕ, ◌+◌, ◌*◌, ◌<◌}
use Rattle.grid.specs.declared.size.Size.{Size}
use Rattle.grid.specs.declared.square.Square.{Square}

-- the three belong together, and the square lies in a drawing of the size
pub record Inside (size : Size) (square : Square) : Type 0 where
  pub row : square.row < size.rows
  pub column : square.column < size.columns
  pub place : square.place ≡ square.row * size.columns + square.column

-- in reading order the square at a place comes, and then the one at the next place
pub record Comes (size : Size) (place next : ℕ) (square : Square) : Type 0 where
  pub inside : Inside size square
  pub is : square.place ≡ place
  pub rises : next ≡ place + 1
