use Rattle.std.proofs.Common.{◌<◌, None, arith, rules}
use Rattle.plan.proofs.Made.{each_made}
use Rattle.job.specs.Periods.{First}
use Rattle.job.proofs.job.Job.first_columns.Goals as goal

pub returns-clause-each : goal.returns-clause-each
returns-clause-each g c row inside shown =
    let job = c.args.self.now in
    let plan = g.P.Plan.meaning job.plan in
    let law = g.met.P.Plan.lawful job.plan in
    let many = c.min-rows.result in
    each_made _ (λ k first. k < many → First job.size.columns plan c.args.rank k first) _ (λ i y q k. search rules) _ 0 16 c.from_fn.ensures.items.each row None (omega arith)
    (omega (arith, law.row_period.most)) (omega (arith, c.min-rows.ensures, c.row_period.ensures))
