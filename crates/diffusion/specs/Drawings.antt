-- The squares of a drawing under a plan: rows and columns are two lines, and the plan gives the ranks.
use Rattle.std.specs.Prelude.{ℕ, ◌*◌, ◌/◌, ◌%◌}
use Rattle.tone.specs.Algebra.{Algebra}
use Rattle.plan.specs.Ranks.{Ranks}
use Rattle.quantiser.specs.Tables.{Tables}
use Rattle.grid.specs.Lines.{Line, plain}
use Rattle.grid.specs.Neighbours.{neighbour}
use Rattle.diffusion.specs.Draft.{Setting}
use Rattle.diffusion.specs.Neighbourhoods.{Neighbourhood}

abbrev pub laid_out : Line → Line → Ranks → Neighbourhood
laid_out rows columns plan = record {
  count = rows.size * columns.size;
  near = λ s d. neighbour rows columns (s / columns.size) (s % columns.size) d;
  rank = λ s. plan.rank (s / columns.size) (s % columns.size);
}

-- a drawing whose edges are edges
abbrev pub plain_drawing : ℕ → ℕ → Ranks → Neighbourhood
plain_drawing rows columns plan = laid_out (plain rows) (plain columns) plan

-- a plain drawing of so many rows and columns, with its tones by place, under a plan and a quantiser
abbrev pub setting_of : {T : Type 0} → Algebra T → ℕ → ℕ → Ranks → Tables T → (ℕ → T) → Setting T
setting_of tone rows columns plan tables drawing = record { algebra = tone; squares = plain_drawing rows columns plan; tables = tables; drawing = drawing }
