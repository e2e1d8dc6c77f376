use Rattle.std.proofs.Common.{rules, arith}
use Rattle.plan.specs.TableLaws.{tabled-none}
use Rattle.plan.proofs.Below.{all_below}
use Rattle.plan.proofs.matrix.Matrix.is_apart.Goals as goal

pub returns : goal.returns
returns c =
    all_below _ _ _ _ _ _ _ c.all.ensures.ran (λ x q k. search rules) (λ x q k. search rules)
    (tabled-none _ _ c.args.self.now.ranks.now (omega arith) (omega arith))
