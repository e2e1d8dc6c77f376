use Rattle.diffusion.proofs.Lost.{lists_losses}
use Rattle.diffusion.proofs.laws.losses_are_the_fixed_barons.Goals as goal

pub returns : goal.returns
returns g c = lists_losses
