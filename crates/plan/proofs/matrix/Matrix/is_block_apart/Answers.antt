use Rattle.std.proofs.Common.{rules}
use Rattle.plan.specs.Blocks.{block_cases}
use Rattle.plan.specs.Table.{tabled}
use Rattle.plan.proofs.matrix.Matrix.is_block_apart.Goals as goal

pub returns-then-here-corner : goal.returns-then-here-corner
returns-then-here-corner c =
    let m = c.args.self.now in
    block_cases (tabled m.rows m.columns m.ranks.now) c.args.row c.args.column _ (search rules)

pub returns-else-here-corner : goal.returns-else-here-corner
returns-else-here-corner c =
    let m = c.args.self.now in
    block_cases (tabled m.rows m.columns m.ranks.now) c.args.row c.args.column _ (search rules)
