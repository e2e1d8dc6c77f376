use Rattle.std.proofs.Common.{◌≡◌, ◌*◌, ◌≤◌}
use Rattle.job.specs.Meaning.{setting_by, band}
use Rattle.job.specs.Progress.{progress, passed_below}
use Rattle.job.proofs.job.Job.pass.Given as goal

abbrev pub invariant-loop-row : goal.invariant-loop-row
invariant-loop-row g l =
    let j = setting_by g.Q.Tone.Tone.algebra g.P.Plan.meaning g.Q.Quantiser.tables l.self in
    (l.count ≤ l.row * l.self.size.columns)
    × (progress l.count (band l.codes l.amounts) ≡ passed_below j l.rank (l.row * l.self.size.columns) (band l.initial.codes l.initial.amounts))
