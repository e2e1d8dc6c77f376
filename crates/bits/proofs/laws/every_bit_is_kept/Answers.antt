use Rattle.bits.proofs.Unpacked.{bit_kept}
use Rattle.bits.proofs.laws.every_bit_is_kept.Goals as goal

pub returns : goal.returns
returns c = bit_kept
