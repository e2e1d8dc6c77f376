use Rattle.model.proofs.Agreed.{ran}
use Rattle.model.proofs.lists_of_calls_agree_with_the_model.Goals as goal

pub returns : goal.returns
returns g c = ran
