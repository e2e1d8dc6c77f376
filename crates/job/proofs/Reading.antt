-- A square that a loop or a chain in reading order comes to, and what a test of each square tells.
use Rattle.std.proofs.Common.{◌≡◌, ◌*◌, ◌<◌, ap, ◌∙◌, subst, mul_comm, arith}
use Rattle.std.proofs.lemmas.Nat.{mul-add-lt}
use Rattle.plan.specs.Ranks.{Ranks}
use Rattle.plan.specs.Ranks as plans
use Rattle.grid.specs.Squares.{Inside}
use Rattle.grid.specs.declared.size.Size.{Size}
use Rattle.grid.specs.declared.square.Square.{Square}
use Rattle.diffusion.specs.Drawings.{plain_drawing}
use Rattle.diffusion.proofs.Lines.{lays_out}

-- its place is that of a square
pub place-below : (size : Size) (square : Square) → Inside size square → square.place < size.rows * size.columns
place-below size square at = omega (arith, at.place, mul-add-lt square.row size.columns square.column size.rows at.row at.column, mul_comm size.rows size.columns)

-- it lies in the drawing whose size the loop has kept
pub inside-same : (size same : Size) (square : Square) → size ≡ same → Inside size square → Inside same square
inside-same size same square e = subst (λ s. Inside s square) e

-- its rank is the plan's at its row and column
pub square-rank : (size : Size) (plan : Ranks) → plans.Lawful plan → (square : Square) → Inside size square
    → (plain_drawing size.rows size.columns plan).rank square.place ≡ plan.rank square.row square.column
square-rank size plan law square at =
    ap (plain_drawing size.rows size.columns plan).rank at.place ∙ (lays_out size.rows size.columns plan law).rank square.row square.column at.column
