use Rattle.model.proofs.Agreed.{agrees}
use Rattle.model.proofs.calls_agree_with_the_model.Goals as goal

pub returns : goal.returns
returns g c = agrees
