use Rattle.std.proofs.Common.{refl, arith}
use Rattle.bits.specs.Bits.{binary, bit_at}
use Rattle.bits.proofs.Binary.{binary_room, binary_more, bit_at_le}
use Rattle.bits.proofs.byte.pack_byte.Goals as goal

pub loop-k-init : goal.loop-k-init
unfolding binary
loop-k-init g c = refl

pub overflow_mul-byte : goal.overflow_mul-byte
overflow_mul-byte g c =
    omega (arith, binary_room _ (bit_at_le g.M.Mark.marks c.args.codes.now) c.loop-k.k (omega arith), c.loop-k.invariant)

pub overflow_add-byte : goal.overflow_add-byte
overflow_add-byte g c =
    omega (arith, binary_room _ (bit_at_le g.M.Mark.marks c.args.codes.now) c.loop-k.k (omega arith), bit_at_le g.M.Mark.marks c.args.codes.now c.loop-k.k)

pub loop-k-preserved : goal.loop-k-preserved
loop-k-preserved g c = let h = binary_more (bit_at g.M.Mark.marks c.args.codes.now) c.loop-k.k in cc
