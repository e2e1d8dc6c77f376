use Rattle.std.proofs.Common.{◌+◌, ◌*◌, sym, ◌∙◌, ap₂, arith}
use Rattle.plan.specs.Doubling.{doubling}
use Rattle.plan.specs.DoublingLaws.{doubling-step, rank_below, corner_below}
use Rattle.plan.proofs.doubling.+rank_of.Goals as goal

pub returns-then-order-eq1 : goal.returns-then-order-eq1
unfolding doubling
returns-then-order-eq1 t c = rw c.if-order-eq1.true c.corner.ensures

pub overflow_mul-result : goal.overflow_mul-result
overflow_mul-result t c = omega (arith, rank_below c.args.order _ _ _ c.requires.least c.requires.most c.rank_of.ensures)

pub overflow_add-result : goal.overflow_add-result
overflow_add-result t c =
    omega (arith, rank_below c.args.order _ _ _ c.requires.least c.requires.most c.rank_of.ensures, corner_below _ _ _ c.corner-2.ensures)

pub returns : goal.returns
returns t c =
    ap₂ (λ a b. 4 * a + b) c.rank_of.ensures c.corner-2.ensures
    ∙ sym (doubling-step c.args.order c.args.row c.args.column c.period-s.result (omega arith) c.period-s.ensures)
