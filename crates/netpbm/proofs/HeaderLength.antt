-- The header of a PBM.
use Rattle.std.proofs.Common.{◌≡◌, ℕ, ◌+◌, length, decimal, arith, length-append}
use Rattle.netpbm.specs.Pbm.{header}

pub length-header : (rows columns : ℕ) → length (header rows columns) ≡ length (decimal columns) + length (decimal rows) + 5
length-header rows columns = simp length-append (omega arith)
