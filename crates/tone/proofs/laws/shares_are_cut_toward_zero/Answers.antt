use Rattle.tone.proofs.Parts.{cut}
use Rattle.tone.proofs.laws.shares_are_cut_toward_zero.Goals as goal

pub returns : goal.returns
returns c = cut
