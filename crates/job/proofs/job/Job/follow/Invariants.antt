use Rattle.model.proofs.OneMore.{FollowedTo}
use Rattle.job.specs.Meaning.{meant, band}
use Rattle.job.proofs.job.Job.follow.Given as goal

abbrev pub invariant-loop-count : goal.invariant-loop-count
invariant-loop-count g l =
    FollowedTo (meant g.Q.Tone.Tone.algebra g.P.Plan.meaning g.Q.Quantiser.tables l.self l.drawing).setting (band l.initial.codes l.initial.amounts) l.places l.count (band l.codes l.amounts)
