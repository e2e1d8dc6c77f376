-- The directions that a loop over all eight comes to, by their numbers.
use Rattle.std.proofs.Common.{◌≡◌, ℕ, ◌<◌, List, [], ◌∷◌, get_or, refl, arith}
use Rattle.grid.specs.Directions.{number_of}
use Rattle.grid.specs.declared.direction.Direction.{Direction}
use Rattle.grid.specs.declared.direction.Direction.TheVariants.{N, Ne, E, Se, S, Sw, W, Nw}
use Rattle.diffusion.proofs.Lines.{by_eight}

-- all eight, clockwise
abbrev pub directions : List Direction
directions = N ∷ Ne ∷ E ∷ Se ∷ S ∷ Sw ∷ W ∷ Nw ∷ []

-- the direction at an index
abbrev pub nth : ℕ → Direction
nth d = get_or directions d N

pub numbered : (d : ℕ) → d < 8 → number_of (nth d) ≡ d
numbered = by_eight (λ d. number_of (nth d) ≡ d) refl refl refl refl refl refl refl refl

pub number-small : (direction : Direction) → number_of direction < 8
number-small N = omega arith
number-small Ne = omega arith
number-small E = omega arith
number-small Se = omega arith
number-small S = omega arith
number-small Sw = omega arith
number-small W = omega arith
number-small Nw = omega arith
