use Rattle.drafting.proofs.Drafted.{square_is_drafted}
use Rattle.drafting.proofs.laws.every_square_is_drafted.Goals as goal

pub returns : goal.returns
returns c = square_is_drafted
