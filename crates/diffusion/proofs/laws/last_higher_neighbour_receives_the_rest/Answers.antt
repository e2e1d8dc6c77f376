use Rattle.diffusion.proofs.Parts.{shares_out}
use Rattle.diffusion.proofs.laws.last_higher_neighbour_receives_the_rest.Goals as goal

pub returns : goal.returns
returns g c = shares_out
