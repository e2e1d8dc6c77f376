use Rattle.diffusion.proofs.BandSweeps.{replays}
use Rattle.diffusion.proofs.laws.replay_gives_the_bands_of_the_set.Goals as goal

pub returns : goal.returns
returns g c = replays
