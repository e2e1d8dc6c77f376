use Rattle.diffusion.proofs.Parts.{adds_up}
use Rattle.diffusion.proofs.laws.parts_add_up_to_the_error.Goals as goal

pub returns : goal.returns
returns g c = adds_up
