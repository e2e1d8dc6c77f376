use Rattle.model.proofs.Replayed.{replays}
use Rattle.model.proofs.replay_judges_every_code.Goals as goal

pub returns : goal.returns
returns g c = replays
