-- Squares by place, their neighbours by direction, and their ranks: all that the spreading of errors asks of a drawing's shape and plan.
use Rattle.std.specs.Prelude.{◌≡◌, ℕ, zero, suc, ◌+◌, ◌<◌, Bool, cond, is_some, Some, None, Option, ◌==◌, ◌≢◌, nat_lt}
use Rattle.grid.specs.Directions.{opposite, weight}

-- The places are the numbers below the count. The directions are the numbers below 8, in their order.
pub record Neighbourhood : Type 0 where
  pub count : ℕ
  pub near : ℕ → ℕ → Option ℕ
  pub rank : ℕ → ℕ

pub record Laws (squares : Neighbourhood) : Type 0 where
  -- a neighbour lies inside
  pub inside : (s d t : ℕ) → s < squares.count → d < 8 → squares.near s d ≡ Some t → t < squares.count
  -- and has the square for its own neighbour in the opposite direction
  pub returns : (s d t : ℕ) → s < squares.count → d < 8 → squares.near s d ≡ Some t → squares.near t (opposite d) ≡ Some s
  -- and has another rank
  pub apart : (s d t : ℕ) → s < squares.count → d < 8 → squares.near s d ≡ Some t → squares.rank s ≢ squares.rank t

abbrev pub keep : (ℕ → Bool) → Option ℕ → Option ℕ
keep p None = None
keep p (Some t) = cond (p t) (Some t) None

-- the neighbour in a direction, where there is one and its rank is lower
unfoldable pub lower : Neighbourhood → ℕ → ℕ → Option ℕ
lower squares s d = keep (λ t. nat_lt (squares.rank t) (squares.rank s)) (squares.near s d)

-- the neighbour in a direction, where there is one and its rank is higher
unfoldable pub higher : Neighbourhood → ℕ → ℕ → Option ℕ
higher squares s d = keep (λ t. nat_lt (squares.rank s) (squares.rank t)) (squares.near s d)

-- the weights of the higher neighbours in the directions below n, added
unfoldable pub weights : Neighbourhood → ℕ → ℕ → ℕ
weights squares s zero = 0
weights squares s (suc n) = weights squares s n + cond (is_some (higher squares s n)) (weight n) 0

-- the last of the directions below n with a higher neighbour; 8, which is no direction, where there is none
unfoldable pub last : Neighbourhood → ℕ → ℕ → ℕ
last squares s zero = 8
last squares s (suc n) = cond (is_some (higher squares s n)) n (last squares s n)

-- no neighbour is higher
abbrev pub baron : Neighbourhood → ℕ → Bool
baron squares s = last squares s 8 == 8
