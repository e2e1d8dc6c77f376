use Rattle.model.specs.Jobs.{job_of}
use Rattle.model.proofs.Halted.{accepts_what_is_written}
use Rattle.model.proofs.Opened.{lawful_job}
use Rattle.calls.proofs.laws.resume_accepts_just_what_halt_writes.Goals as goal

pub returns : goal.returns
returns g c = λ p q rows columns drawing long.
    accepts_what_is_written (job_of g.Q.Tone.Tone.algebra rows columns (g.P.Plan.meaning p) (g.Q.Quantiser.tables q) drawing)
    (lawful_job g.Q.Tone.Tone.algebra rows columns (g.P.Plan.meaning p) (g.Q.Quantiser.tables q) drawing g.met.Q.Tone.Tone.lawful (g.met.P.Plan.lawful p) (g.met.Q.Quantiser.sound q) long)
