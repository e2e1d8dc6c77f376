use Rattle.std.proofs.Common.{◌≡◌, ◌+◌, ◌-◌, ◌≢◌, refl, arith, rules, tests}
use Rattle.std.proofs.lemmas.Iterator.{cases_from_all, YieldsList-from_range}
use Rattle.job.proofs.Ranges.{all_in_range}
use Rattle.job.proofs.Strides.{lone}
use Rattle.job.proofs.job.Job.is_lone.Goals as goal

pub returns : goal.returns
returns g c all =
    let job = c.args.self.now in
    let plan = g.P.Plan.meaning job.plan in
    let from = c.args.first + 1 in
    let many = c.column_period.result - from in
    let told = cases_from_all _ _ _ (λ k. plan.rank c.args.row k ≢ c.args.rank) (λ k. plan.rank c.args.row k ≡ c.args.rank) c.all.ensures.ran
    (YieldsList-from_range from c.column_period.result many refl refl) (λ x q k. search (rules, tests)) (λ x q k. search (rules, tests)) in
    lone plan (g.met.P.Plan.lawful job.plan) c.args.rank c.args.row job.size.columns c.args.first c.requires
    (λ k low high. all_in_range (λ n. plan.rank c.args.row n ≢ c.args.rank) _ c.all.result from many told all k (omega arith) (omega (arith, c.column_period.ensures)))
