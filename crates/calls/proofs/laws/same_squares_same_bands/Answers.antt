use Rattle.model.specs.Jobs.{job_of}
use Rattle.model.proofs.Kept.{same-bands}
use Rattle.model.proofs.Opened.{lawful_job, alike_jobs}
use Rattle.calls.proofs.laws.same_squares_same_bands.Goals as goal

pub returns : goal.returns
returns g c = λ p v q w same rows columns drawing long.
    let tone = g.Q.Tone.Tone.algebra in
    same-bands (job_of tone rows columns (g.P.Plan.meaning p) (g.Q.Quantiser.tables q) drawing) (job_of tone rows columns (g.V.Plan.meaning v) (g.W.Quantiser.tables w) drawing)
    (lawful_job tone rows columns (g.P.Plan.meaning p) (g.Q.Quantiser.tables q) drawing g.met.Q.Tone.Tone.lawful (g.met.P.Plan.lawful p) (g.met.Q.Quantiser.sound q) long)
    (lawful_job tone rows columns (g.V.Plan.meaning v) (g.W.Quantiser.tables w) drawing g.met.Q.Tone.Tone.lawful (g.met.V.Plan.lawful v) (g.met.W.Quantiser.sound w) long)
    (alike_jobs tone rows columns (g.P.Plan.meaning p) (g.Q.Quantiser.tables q) drawing (g.V.Plan.meaning v) (g.W.Quantiser.tables w) same.rank same.choice same.output)
