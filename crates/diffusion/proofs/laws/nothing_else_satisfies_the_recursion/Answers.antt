use Rattle.diffusion.proofs.Amounts.{unique}
use Rattle.diffusion.proofs.laws.nothing_else_satisfies_the_recursion.Goals as goal

pub returns : goal.returns
returns g c = unique
