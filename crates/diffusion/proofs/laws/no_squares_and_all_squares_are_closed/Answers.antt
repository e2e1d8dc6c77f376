use Rattle.diffusion.proofs.Readiness.{closed_ends}
use Rattle.diffusion.proofs.laws.no_squares_and_all_squares_are_closed.Goals as goal

pub returns : goal.returns
returns c = closed_ends
