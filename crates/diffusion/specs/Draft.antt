-- What a draft is. Squares are taken by rising rank: the amount of a square is the drawing's tone and the parts that its lower neighbours
-- send it, its code is the quantiser's choice for the amount, its error is the amount less the code's output, and its higher neighbours
-- receive the error in parts.
use Rattle.std.specs.Prelude.{ℕ, zero, suc, cond, is_some, Some, None, Option, ◌==◌}
use Rattle.tone.specs.Algebra.{Algebra}
use Rattle.tone.specs.Algebra as tones
use Rattle.tone.specs.Sums.{total}
use Rattle.quantiser.specs.Tables.{Tables, Sound}
use Rattle.grid.specs.Directions.{opposite, weight}
use Rattle.diffusion.specs.Neighbourhoods.{Neighbourhood, Laws, lower, higher, weights, last}

-- zero where there is no place
abbrev pub at : {T : Type 0} → Algebra T → Option ℕ → (ℕ → T) → T
at tone None f = tone.zero
at tone (Some t) f = f t

module _ {T : Type 0} (tone : Algebra T) (squares : Neighbourhood) where
  -- the share of the error e of s for a higher neighbour in the direction d: by its weight of the weights of all of them
  abbrev pub shared : ℕ → T → ℕ → T
  shared s e d = cond (is_some (higher squares s d)) (tone.share e (weight d) (weights squares s 8)) tone.zero

  -- the same, of the others than the last
  abbrev pub shared_before : ℕ → T → ℕ → T
  shared_before s e d = cond (d == last squares s 8) tone.zero (shared s e d)

  -- the part that s with the error e sends in the direction d: the last higher neighbour receives the error less all other parts, and
  -- each other its share
  unfoldable pub sends : ℕ → T → ℕ → T
  sends s e d = cond (d == last squares s 8) (tone.difference e (total tone (shared_before s e) 8)) (shared s e d)

  -- what the lower neighbours of s send it, where p t d is the part that t sends in the direction d
  unfoldable pub gather : (ℕ → ℕ → T) → ℕ → T
  gather p s = total tone (λ d. at tone (lower squares s d) (λ t. p t (opposite d))) 8

-- all that a draft depends on: a tone's algebra, squares with their ranks, a quantiser's tables, and the drawing's tone at each place
pub record Setting (T : Type 0) : Type 0 where
  pub algebra : Algebra T
  pub squares : Neighbourhood
  pub tables : Tables T
  pub drawing : ℕ → T

pub record Lawful {T : Type 0} (j : Setting T) : Type 0 where
  pub tone : tones.Lawful j.algebra
  pub squares : Laws j.squares
  pub tables : Sound j.algebra j.tables

module _ {T : Type 0} (j : Setting T) where
  -- the error that an amount leaves: the amount less the output of the code chosen for it
  abbrev pub left : T → T
  left x = j.algebra.difference x (j.tables.output (j.tables.choice x))

  -- the drawing's tone at s and what its lower neighbours send it, where their amounts are those of f
  abbrev pub due_amount : (ℕ → T) → ℕ → T
  due_amount f s = j.algebra.sum (j.drawing s) (gather j.algebra j.squares (λ t d. sends j.algebra j.squares t (left (f t)) d) s)

  -- the amounts, worked out n ranks deep
  unfoldable pub amount_by : ℕ → ℕ → T
  amount_by zero s = j.drawing s
  amount_by (suc n) s = due_amount (amount_by n) s

  -- every lower neighbour has a smaller rank, so that no square is more ranks deep than its own
  unfoldable pub amount : ℕ → T
  amount s = amount_by (suc (j.squares.rank s)) s

  abbrev pub code : ℕ → ℕ
  code s = j.tables.choice (amount s)

  abbrev pub error : ℕ → T
  error s = left (amount s)

  -- what s sends in the direction d
  abbrev pub part : ℕ → ℕ → T
  part s d = sends j.algebra j.squares s (error s) d
