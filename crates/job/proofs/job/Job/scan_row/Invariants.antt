use Rattle.std.proofs.Common.{◌≡◌, ◌*◌, ◌≤◌}
use Rattle.job.specs.Meaning.{setting_by, band}
use Rattle.job.specs.Progress.{progress, passed_from}
use Rattle.job.proofs.job.Job.scan_row.Given as goal

abbrev pub invariant-loop-column : goal.invariant-loop-column
invariant-loop-column g l =
    let j = setting_by g.Q.Tone.Tone.algebra g.P.Plan.meaning g.Q.Quantiser.tables l.self in
    (l.count ≤ l.column) × (progress l.count (band l.codes l.amounts) ≡ passed_from j l.rank (l.row * l.self.size.columns) l.column (band l.initial.codes l.initial.amounts))
