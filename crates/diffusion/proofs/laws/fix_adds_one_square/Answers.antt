use Rattle.diffusion.proofs.SetBands.{fix_adds}
use Rattle.diffusion.proofs.laws.fix_adds_one_square.Goals as goal

pub returns : goal.returns
returns g c = fix_adds
