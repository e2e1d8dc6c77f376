use Rattle.std.proofs.Common.{ℕ, subst}
use Rattle.job.specs.Meaning.{band}
use Rattle.job.specs.Periods.{First}
use Rattle.job.proofs.Strides.{row_lacks}
use Rattle.job.proofs.job.Job.pass_row.Goals as goal

pub returns-in_default-clause-after : goal.returns-in_default-clause-after
returns-in_default-clause-after g c =
    let job = c.args.self.now in
    let size = job.size in
    let plan = g.P.Plan.meaning job.plan in
    let tone = g.Q.Tone.Tone.algebra in
    let zeros : ℕ → g.row.Q-Tone.Denot = λ s. tone.zero in
    row_lacks tone size.rows size.columns plan (g.met.P.Plan.lawful job.plan) (g.Q.Quantiser.tables job.quantiser) zeros
    c.args.rank c.args.row (band c.args.codes.now c.args.amounts.now) (subst (First size.columns plan c.args.rank c.args.row) c.in_default.is c.requires.first)
