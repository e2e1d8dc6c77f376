use Rattle.std.proofs.Common.{◌≡◌, Some}
use Rattle.model.specs.Replays.{replay}
use Rattle.job.specs.Meaning.{setting_by}
use Rattle.job.proofs.job.Job.replay.Given as goal

abbrev pub invariant-loop-rank : goal.invariant-loop-rank
invariant-loop-rank g l =
    Some l.amounts ≡ replay (setting_by g.Q.Tone.Tone.algebra g.P.Plan.meaning g.Q.Quantiser.tables l.self) l.codes (Some l.initial.amounts) l.rank
