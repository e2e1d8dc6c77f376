-- The eight directions by their numbers, in the order N, NE, E, SE, S, SW, W, NW. N is the row above, E the column after.
use Rattle.std.specs.Prelude.{ℕ, ◌+◌, ◌%◌, cond, [], ◌∷◌, ◌==◌, slice_index_or}
use Rattle.grid.specs.declared.direction.Direction.{Direction}
use Rattle.grid.specs.declared.direction.Direction.TheVariants.{N, Ne, E, Se, S, Sw, W, Nw}
use Rattle.grid.specs.declared.direction.Step.{Step}
use Rattle.grid.specs.declared.direction.Step.TheVariants.{Back, Stay, Ahead}

abbrev pub number_of : Direction → ℕ
number_of N = 0
number_of Ne = 1
number_of E = 2
number_of Se = 3
number_of S = 4
number_of Sw = 5
number_of W = 6
number_of Nw = 7

-- the direction back
abbrev pub opposite : ℕ → ℕ
opposite d = (d + 4) % 8

-- 2 by a side, 1 by a corner; the sides have the even numbers
abbrev pub weight : ℕ → ℕ
weight d = cond (d % 2 == 0) 2 1

-- what a direction does to the row
abbrev pub down : ℕ → Step
down d = slice_index_or (Back ∷ Back ∷ Stay ∷ Ahead ∷ Ahead ∷ Ahead ∷ Stay ∷ Back ∷ []) d Stay

-- what it does to the column
abbrev pub across : ℕ → Step
across d = slice_index_or (Stay ∷ Ahead ∷ Ahead ∷ Ahead ∷ Stay ∷ Back ∷ Back ∷ Back ∷ []) d Stay
