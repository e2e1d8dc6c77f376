-- What Read promises a caller in C.
use Rattle.std.specs.Prelude.{ℕ, ◌+◌, List, Some, None, Option, Result, Ok, Err}
use Rattle.refusal.specs.Numbers.{number_of}
use Rattle.netpbm.specs.declared.fault.Fault.{Fault}
use Rattle.netpbm.specs.declared.reading.Picture.{Picture}
use Rattle.netpbm.specs.Words.{after}
use Rattle.netpbm.specs.Pgm.{Told, rows_in, columns_in, squares_in}
use Rattle.netpbm.specs.Pgm.Told.{told}
use Rattle.controller.specs.declared.reading.Reading.{Reading}

abbrev pub reading : ℕ → ℕ → ℕ → ℕ → ℕ → Reading
reading rows columns end offset refusal = record { rows = rows; columns = columns; end = end; offset = offset; refusal = refusal }

-- what Read of the code answered, as numbers
abbrev pub read_told : Result Picture Fault → Reading
read_told (Ok picture) = reading picture.size.rows picture.size.columns picture.end 0 0
read_told (Err fault) = reading 0 0 0 fault.offset (number_of fault.refusal)

-- by the first fault: its number and offset; and where there is none, the size that the input tells and the offset behind its last sample
abbrev pub read_answer : List ℕ → Option Told → Reading
read_answer input (Some (told n offset)) = reading 0 0 0 offset n
read_answer input None = reading (rows_in input) (columns_in input) (after input (3 + squares_in input)) 0 0
