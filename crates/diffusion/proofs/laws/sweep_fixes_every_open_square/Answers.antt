use Rattle.diffusion.proofs.BandSweeps.{fills}
use Rattle.diffusion.proofs.laws.sweep_fixes_every_open_square.Goals as goal

pub returns : goal.returns
returns g c = fills
