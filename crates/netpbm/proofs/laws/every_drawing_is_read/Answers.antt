use Rattle.netpbm.proofs.Accepted.{drawing_read}
use Rattle.netpbm.proofs.laws.every_drawing_is_read.Goals as goal

pub returns : goal.returns
returns c = drawing_read
