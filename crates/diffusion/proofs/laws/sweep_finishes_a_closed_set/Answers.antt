use Rattle.diffusion.proofs.BandSweeps.{finishes}
use Rattle.diffusion.proofs.laws.sweep_finishes_a_closed_set.Goals as goal

pub returns : goal.returns
returns g c = finishes
