use Rattle.model.proofs.Kept.{fills}
use Rattle.model.proofs.finish_fixes_every_open_square.Goals as goal

pub returns : goal.returns
returns g c = fills
