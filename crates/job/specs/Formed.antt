-- Whether bytes have the form of a record.
use Rattle.std.specs.Prelude.{ℕ, ◌*◌, Bool, ◌&&◌, List}
use Rattle.model.specs.Records.{right_size, spare_clear, right_length}

-- they tell so many rows and columns, no spare bit stands, and they are as long as is due
abbrev pub formed : ℕ → ℕ → List ℕ → Bool
formed rows columns rec = right_size rows columns rec && (spare_clear (rows * columns) rec && right_length (rows * columns) rec)
