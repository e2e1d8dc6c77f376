use Rattle.std.proofs.Common.{◌∙◌}
use Rattle.diffusion.proofs.Lines.{lays_out}
use Rattle.job.specs.Meaning.{setting_by, band}
use Rattle.job.proofs.Taking.{taken_visits}
use Rattle.job.proofs.job.Job.visit.Goals as goal

pub returns : goal.returns
returns g c =
    let job = c.args.self.now in
    let size = job.size in
    let j = setting_by g.Q.Tone.Tone.algebra g.P.Plan.meaning g.Q.Quantiser.tables job in
    let laws = (lays_out size.rows size.columns (g.P.Plan.meaning job.plan) (g.met.P.Plan.lawful job.plan)).laws in
    record {
      few = c.take.ensures.few;
      after = c.take.ensures.after ∙ taken_visits j c.args.place (band c.args.codes.now c.args.amounts.now) laws c.requires.pattern.inside c.requires.lower;
    }
