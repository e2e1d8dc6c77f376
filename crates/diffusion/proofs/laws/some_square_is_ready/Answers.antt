use Rattle.diffusion.proofs.Readiness.{some_ready}
use Rattle.diffusion.proofs.laws.some_square_is_ready.Goals as goal

pub returns : goal.returns
returns c = some_ready
