use Rattle.std.proofs.Common.{◌≡◌, ◌*◌, ◌≤◌}
use Rattle.job.specs.Meaning.{setting_by, band}
use Rattle.job.specs.Progress.{progress, swept_below}
use Rattle.job.proofs.job.Job.sweep.Given as goal

abbrev pub invariant-loop-rank : goal.invariant-loop-rank
invariant-loop-rank g l =
    let j = setting_by g.Q.Tone.Tone.algebra g.P.Plan.meaning g.Q.Quantiser.tables l.self in
    (l.count ≤ l.rank * 1048576) × (progress l.count (band l.codes l.amounts) ≡ swept_below j l.rank (band l.initial.codes l.initial.amounts))
