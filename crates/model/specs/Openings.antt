-- Open: which size is taken, and what becomes of the bands.
use Rattle.std.specs.Prelude.{ℕ, ◌*◌, cond, ◌&&◌, List, length, replicate, ◌==◌}
use Rattle.diffusion.specs.Bands.{Bands}
use Rattle.grid.specs.Limits.{within}

-- 0, or the number of the refusal: 1 for the size, then 2 for a band that is not as long as there are squares
abbrev pub open_refusal : ℕ → ℕ → ℕ → ℕ → ℕ → ℕ
open_refusal rows columns drawing amounts codes =
    cond (within rows columns) (cond (drawing == rows * columns && (amounts == rows * columns && codes == rows * columns)) 0 2) 1

-- what is taken where nothing is refused, and what there is otherwise
abbrev pub unless : {X : Type 0} → ℕ → X → X → X
unless refusal taken otherwise = cond (refusal == 0) taken otherwise

-- every square open, and the drawing in the amounts
abbrev pub opened_on : {T : Type 0} → List T → Bands T → Bands T
opened_on drawing b = record { codes = replicate (length b.codes) 255; amounts = drawing }
