use Rattle.diffusion.proofs.SetBands.{standing_is}
use Rattle.diffusion.proofs.laws.codes_tell_the_set.Goals as goal

pub returns : goal.returns
returns g c = λ j sound F s l. standing_is j F sound s l
