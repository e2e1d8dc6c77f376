use Rattle.diffusion.proofs.Lines.{lays_out}
use Rattle.diffusion.proofs.laws.plain_drawing_keeps_the_laws.Goals as goal

pub returns : goal.returns
returns c = lays_out
