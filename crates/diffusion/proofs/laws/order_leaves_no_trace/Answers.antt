use Rattle.diffusion.proofs.SetBands.{orderless}
use Rattle.diffusion.proofs.laws.order_leaves_no_trace.Goals as goal

pub returns : goal.returns
returns g c = orderless
