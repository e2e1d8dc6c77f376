use Rattle.examples.proofs.Worked.{all_hold}
use Rattle.examples.proofs.examples_hold.Goals as goal

pub returns : goal.returns
returns c = all_hold
