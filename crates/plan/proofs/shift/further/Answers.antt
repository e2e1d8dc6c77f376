use Rattle.std.proofs.Common.{◌+◌, ◌%◌, ap, ◌∙◌}
use native.Mathlib.Nat.{mod-add-mod}
use Rattle.plan.proofs.shift.further.Goals as goal

pub returns : goal.returns
returns c = mod-add-mod c.args.x c.args.period c.from.result ∙ ap (λ n. (c.args.x + n) % c.args.period) c.from.ensures
