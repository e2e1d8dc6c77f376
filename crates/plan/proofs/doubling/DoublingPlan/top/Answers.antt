use Rattle.std.proofs.Common.{◌-◌, ap, arith}
use Rattle.plan.specs.DoublingLaws.{squared}
use Rattle.plan.proofs.doubling.DoublingPlan.top.Goals as goal

pub overflow_cast-result : goal.overflow_cast-result
overflow_cast-result c = let d = c.args.self.now in omega (arith, (squared d.order c.period-s.result d.least d.most c.period-s.ensures).2)

pub returns : goal.returns
returns c = let d = c.args.self.now in ap (λ n. n - 1) (squared d.order c.period-s.result d.least d.most c.period-s.ensures).0
