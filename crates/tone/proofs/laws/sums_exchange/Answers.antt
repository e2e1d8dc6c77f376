use Rattle.tone.proofs.Totals.{total_exchange}
use Rattle.tone.proofs.laws.sums_exchange.Goals as goal

pub returns : goal.returns
returns g c = total_exchange g.T.Tone.algebra g.met.T.Tone.lawful
