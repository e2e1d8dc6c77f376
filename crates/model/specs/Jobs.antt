-- A job as the definitions see it: the setting of its draft with the size, the plan's top and the length of the drawing that is lent.
use Rattle.std.specs.Prelude.{◌≡◌, ℕ, ◌+◌, ◌*◌, Bool, cond, ◌&&◌, List, length, ◌==◌, nat_lt, slice_index_or}
use Rattle.tone.specs.Algebra.{Algebra}
use Rattle.plan.specs.Ranks.{Ranks}
use Rattle.quantiser.specs.Tables.{Tables}
use Rattle.diffusion.specs.Bands.{Bands}
use Rattle.diffusion.specs.Draft as draft
use Rattle.diffusion.specs.Draft.{Setting}
use Rattle.diffusion.specs.Drawings.{setting_of}
use Rattle.diffusion.specs.Theorems.{Capped}

pub record Job (T : Type 0) : Type 0 where
  pub setting : Setting T
  pub rows : ℕ
  pub columns : ℕ
  -- no rank is above it
  pub top : ℕ
  -- how long the drawing is that is lent
  pub given : ℕ

abbrev pub squares : {T : Type 0} → Job T → ℕ
squares p = p.setting.squares.count

-- a job whose drawing is as long as it has squares
pub record Lawful {T : Type 0} (p : Job T) : Type 0 where
  pub setting : draft.Lawful p.setting
  pub size : squares p ≡ p.rows * p.columns
  pub capped : Capped p.setting.squares p.top
  pub whole : p.given ≡ squares p

-- the job of a size, a plan and a quantiser on a drawing
abbrev pub job_of : {T : Type 0} → Algebra T → ℕ → ℕ → Ranks → Tables T → List T → Job T
job_of tone rows columns plan tables drawing = record {
  setting = setting_of tone rows columns plan tables (λ s. slice_index_or drawing s tone.zero);
  rows = rows;
  columns = columns;
  top = plan.top;
  given = length drawing;
}

-- the place of a row and a column; the count of the squares, which is no place, where there is none
abbrev pub place : {T : Type 0} → Job T → ℕ → ℕ → ℕ
place p row column = cond (nat_lt row p.rows && nat_lt column p.columns) (row * p.columns + column) (squares p)

-- each band is as long as the drawing has squares
abbrev pub fits : {T : Type 0} → Job T → Bands T → Bool
fits p b = p.given == squares p && (length b.amounts == squares p && length b.codes == squares p)
