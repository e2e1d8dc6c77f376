use Rattle.diffusion.proofs.Conserved.{keeps_total}
use Rattle.diffusion.proofs.laws.total_is_kept.Goals as goal

pub returns : goal.returns
returns g c = keeps_total
