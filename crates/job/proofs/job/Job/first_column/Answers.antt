use Rattle.std.proofs.Common.{◌≡◌, ◌≢◌, arith, rules, tests}
use Rattle.std.proofs.lemmas.Iterator.{first_from_Range}
use Rattle.job.proofs.Strides.{first_found}
use Rattle.job.proofs.job.Job.first_column.Goals as goal

pub returns : goal.returns
returns g c =
    let job = c.args.self.now in
    let plan = g.P.Plan.meaning job.plan in
    let told = first_from_Range (record { start = 0; end = c.min.result }) _ _ c.find.result (λ k. plan.rank c.args.row k ≡ c.args.rank) (λ k. plan.rank c.args.row k ≢ c.args.rank) c.find.ensures.ran
    (λ x q k. search (rules, tests)) (λ x q k. search (rules, tests)) in
    first_found plan (g.met.P.Plan.lawful job.plan) c.args.rank c.args.row job.size.columns c.min.result (omega (arith, c.min.ensures, c.column_period-period.ensures)) c.find.result told
