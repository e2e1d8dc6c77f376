use Rattle.tone.proofs.Groups.{joins}
use Rattle.tone.proofs.laws.sums_join.Goals as goal

pub returns : goal.returns
returns g c = joins g.T.Tone.algebra g.met.T.Tone.lawful
