use Rattle.diffusion.proofs.Amounts.{recursion}
use Rattle.diffusion.proofs.laws.amount_satisfies_the_recursion.Goals as goal

pub returns : goal.returns
returns g c = recursion
