use Rattle.tone.proofs.Groups.{cancels}
use Rattle.tone.proofs.laws.sums_cancel.Goals as goal

pub returns : goal.returns
returns g c = cancels g.T.Tone.algebra g.met.T.Tone.lawful
