use Rattle.model.proofs.Agreed.{stepped}
use Rattle.model.proofs.any_call_agrees_with_the_model.Goals as goal

pub returns : goal.returns
returns g c = stepped
