use Rattle.std.proofs.Common.{◌≡◌, Some}
use Rattle.model.specs.Replays.{replay_sweep}
use Rattle.job.specs.Meaning.{setting_by}
use Rattle.job.proofs.job.Job.replay_rank.Given as goal

abbrev pub invariant-loop-square : goal.invariant-loop-square
invariant-loop-square g l =
    (goal.iterator-loop-square g).can_next l.square-iterator
    × (goal.iterator-loop-square g).is_finite l.square-iterator
    × (l.square-iterator.size ≡ l.self.size)
    × (Some l.amounts ≡ replay_sweep (setting_by g.Q.Tone.Tone.algebra g.P.Plan.meaning g.Q.Quantiser.tables l.self) l.codes l.rank (Some l.initial.amounts) l.square-iterator.place)
