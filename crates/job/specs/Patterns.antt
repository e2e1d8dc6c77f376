-- What lies around a square, without places: for each direction whether the neighbour is lower, higher, or there is none.
use Rattle.std.specs.Prelude.{◌≡◌, ℕ, zero, suc, ◌+◌, ◌-◌, ◌<◌, cond, List, [], ◌∷◌, Some, None, Option, nat_lt, slice_index, slice_index_or}
use Rattle.plan.specs.Ranks.{Ranks}
use Rattle.grid.specs.Directions.{number_of, weight}
use Rattle.grid.specs.declared.direction.Direction.{Direction}
use Rattle.diffusion.specs.Neighbourhoods.{Neighbourhood, weights, last}
use Rattle.job.specs.declared.kind.Kind.{Kind}
use Rattle.job.specs.declared.kind.Kind.TheVariants.{Neither, Lower, Higher}
use Rattle.job.specs.declared.pattern.Pattern.{Pattern}

-- a rank beside a square's own
abbrev pub compared : ℕ → ℕ → Kind
compared own rank = cond (nat_lt rank own) Lower (cond (nat_lt own rank) Higher Neither)

abbrev pub kind_by : Neighbourhood → ℕ → Option ℕ → Kind
kind_by squares own None = Neither
kind_by squares own (Some t) = compared own (squares.rank t)

-- what lies next to s in the direction d
abbrev pub kind_of : Neighbourhood → ℕ → ℕ → Kind
kind_of squares s d = kind_by squares (squares.rank s) (squares.near s d)

-- the same by the row and the column of the neighbour, where there are both
abbrev pub kind_at : Ranks → ℕ → Option ℕ → Option ℕ → Kind
kind_at plan own None c = Neither
kind_at plan own (Some r) None = Neither
kind_at plan own (Some r) (Some c) = compared own (plan.rank r c)

-- the place beside s, where there is a neighbour, in a drawing with so many columns
abbrev pub beside : ℕ → ℕ → ℕ → ℕ
beside columns s d =
    slice_index ((s - columns) ∷ (s - columns + 1) ∷ (s + 1) ∷ (s + columns + 1) ∷ (s + columns) ∷ (s + columns - 1) ∷ (s - 1) ∷ (s - (columns + 1)) ∷ []) d

-- the weight of a direction with a higher neighbour; 0 for another
abbrev pub kind_weight : Kind → ℕ → ℕ
kind_weight Neither d = 0
kind_weight Lower d = 0
kind_weight Higher d = weight d

-- the weights of the higher neighbours in the directions below n
unfoldable pub kinds_weight : List Kind → ℕ → ℕ
kinds_weight ks zero = 0
kinds_weight ks (suc n) = kinds_weight ks n + kind_weight (slice_index_or ks n Neither) n

abbrev pub kind_last : Kind → ℕ → ℕ → ℕ
kind_last Neither d before = before
kind_last Lower d before = before
kind_last Higher d before = d

-- the last direction below n with a higher neighbour; 8 where there is none
unfoldable pub kinds_last : List Kind → ℕ → ℕ
kinds_last ks zero = 8
kinds_last ks (suc n) = kind_last (slice_index_or ks n Neither) n (kinds_last ks n)

-- a last direction as its number; 8 where there is none
abbrev pub last_number : Option Direction → ℕ
last_number None = 8
last_number (Some direction) = number_of direction

-- the pattern of a square s of the drawing
pub record PatternOf (squares : Neighbourhood) (s : ℕ) (pattern : Pattern) : Type 0 where
  pub inside : s < squares.count
  pub kinds : (d : ℕ) → d < 8 → slice_index_or pattern.kinds d Neither ≡ kind_of squares s d
  pub weights : pattern.weights ≡ weights squares s 8
  pub last : last_number pattern.last ≡ last squares s 8

-- the place of a lower neighbour, or of a higher one, by what lies there
abbrev pub lower_place : Kind → ℕ → Option ℕ
lower_place Neither t = None
lower_place Lower t = Some t
lower_place Higher t = None

abbrev pub higher_place : Kind → ℕ → Option ℕ
higher_place Neither t = None
higher_place Lower t = None
higher_place Higher t = Some t
