use Rattle.std.proofs.Common.{◌≡◌, ℕ, ◌*◌, ◌<◌, get_or, drop}
use Rattle.bits.specs.Bits.{byte_of}
use Rattle.bits.proofs.row.pack_row.Given as goal

abbrev pub invariant-loop-b : goal.invariant-loop-b
invariant-loop-b g l = (k : ℕ) → k < l.b → get_or l.out k 0 ≡ byte_of g.M.Mark.marks (drop (8 * k) l.codes)
