use Rattle.netpbm.proofs.Squares.{square_has_its_bit}
use Rattle.netpbm.proofs.laws.every_square_has_its_bit.Goals as goal

pub returns : goal.returns
returns c = square_has_its_bit
