use Rattle.std.proofs.Common.{◌≡◌}
use Rattle.bits.specs.Bits.{binary, bit_at}
use Rattle.bits.proofs.byte.pack_byte.Given as goal

abbrev pub invariant-loop-k : goal.invariant-loop-k
invariant-loop-k g l = l.byte ≡ binary (bit_at g.M.Mark.marks l.codes) l.k
