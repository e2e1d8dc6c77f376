use Rattle.model.proofs.Kept.{same-bands}
use Rattle.model.proofs.same_squares_same_bands.Goals as goal

pub returns : goal.returns
returns g c = same-bands
