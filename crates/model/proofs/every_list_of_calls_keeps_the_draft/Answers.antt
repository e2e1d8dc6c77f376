use Rattle.model.proofs.Kept.{holds_after}
use Rattle.model.proofs.every_list_of_calls_keeps_the_draft.Goals as goal

pub returns : goal.returns
returns g c = holds_after
