use Rattle.std.proofs.Common.{rules, arith}
use Rattle.plan.proofs.Below.{all_below}
use Rattle.plan.proofs.matrix.Matrix.is_row_apart.Goals as goal

pub returns : goal.returns
returns c =
    all_below _ _ _ _ _ _ _ c.all.ensures.ran (λ x q k. search rules) (λ x q k. search rules) (λ each column inside. each column (omega arith))
