use Rattle.tone.proofs.Groups.{in_any_order}
use Rattle.tone.proofs.laws.sums_in_any_order.Goals as goal

pub returns : goal.returns
returns g c = in_any_order g.T.Tone.algebra g.met.T.Tone.lawful
