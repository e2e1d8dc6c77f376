-- A drawing written as a plain PGM, and what it means that Read gives the drawing back.
use Rattle.std.specs.Prelude.{◌≡◌, ℕ, ◌+◌, ◌*◌, ◌<◌, ◌≤◌, true, List, [], ◌∷◌, ◌++◌, map, length, drop, None, decimal, slice_index}
use Rattle.std.specs.List.{flat_map}
use Rattle.grid.specs.Limits.{Within}
use Rattle.netpbm.specs.Words.{separator, word_from, after}
use Rattle.netpbm.specs.Pgm.{rows_in, columns_in, squares_in, read_fault, tones_read, tone_of, filled}

-- each number in decimal, with the gap before it
abbrev pub numbered : List ℕ → List ℕ → List ℕ
numbered gap ns = flat_map (λ n. gap ++ decimal n) ns

-- P2, columns, rows, the greatest sample, the samples
abbrev pub pgm : List ℕ → ℕ → ℕ → ℕ → List ℕ → List ℕ
pgm gap rows columns greatest samples = (80 ∷ 50 ∷ []) ++ numbered gap (columns ∷ rows ∷ greatest ∷ samples)

-- a drawing that a plain PGM can hold, the gap that parts its numbers, and bytes behind the file that do not go on with its last number
pub record Drawing (gap : List ℕ) (rows columns greatest : ℕ) (samples rest : List ℕ) : Type 0 where
  pub parted : 1 ≤ length gap
  pub separators : (k : ℕ) → k < length gap → separator (slice_index gap k) ≡ true
  pub size : Within rows columns
  pub least : 1 ≤ greatest
  pub most : greatest ≤ 255
  pub count : length samples ≡ rows * columns
  pub samples_fit : (k : ℕ) → k < length samples → slice_index samples k ≤ greatest
  pub ended : word_from rest ≡ []

-- what the input says to Read, with room for so many tones
pub record GivenBack (input : List ℕ) (room rows columns : ℕ) (samples : List ℕ) (end : ℕ) : Type 0 where
  pub accepted : read_fault input room ≡ None
  pub its_rows : rows_in input ≡ rows
  pub its_columns : columns_in input ≡ columns
  pub its_end : after input (3 + squares_in input) ≡ end
  pub its_band : (old : List ℕ) → filled input (tones_read input room) old ≡ map tone_of samples ++ drop (length samples) old

-- every such drawing is read, whatever stands between its numbers and behind its file
abbrev pub EveryDrawingIsRead : Type 0
EveryDrawingIsRead =
    (gap : List ℕ) (rows columns greatest room : ℕ) (samples rest : List ℕ) → Drawing gap rows columns greatest samples rest → rows * columns ≤ room
    → GivenBack (pgm gap rows columns greatest samples ++ rest) room rows columns samples (length (pgm gap rows columns greatest samples))
