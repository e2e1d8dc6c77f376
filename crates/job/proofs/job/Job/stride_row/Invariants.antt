use Rattle.std.proofs.Common.{◌≡◌, ℕ, ◌+◌, ◌*◌, ◌%◌, ◌<◌, ◌≤◌}
use Rattle.job.specs.Meaning.{setting_by, band}
use Rattle.job.specs.Patterns.{PatternOf}
use Rattle.job.specs.Progress.{progress, passed_from}
use Rattle.job.proofs.job.Job.stride_row.Given as goal

abbrev pub invariant-loop-column : goal.invariant-loop-column
invariant-loop-column g l =
    let j = setting_by g.Q.Tone.Tone.algebra g.P.Plan.meaning g.Q.Quantiser.tables l.self in
    let q = (g.P.Plan.meaning l.self.plan).column_period in
    let columns = l.self.size.columns in
    let a = l.row * columns in
    (l.known ≤ l.column)
    × (l.known % q ≡ l.first)
    × (l.column % q ≡ l.first)
    × PatternOf j.squares (a + l.known) l.pattern
    × (l.count ≤ l.column)
    × (l.count ≤ columns)
    × (l.column < columns + q)
    × ((n : ℕ) → n ≤ l.column → l.column < n + q → n ≤ columns → progress l.count (band l.codes l.amounts) ≡ passed_from j l.rank a n (band l.initial.codes l.initial.amounts))
