use Rattle.std.proofs.Common.{◌≡◌}
use Rattle.job.specs.Listings.{Listing}
use Rattle.job.specs.Meaning.{squares_of}
use Rattle.job.proofs.job.Job.list_losses.Given as goal

abbrev pub invariant-loop-square : goal.invariant-loop-square
invariant-loop-square g l =
    (goal.iterator-loop-square g).can_next l.square-iterator
    × (goal.iterator-loop-square g).is_finite l.square-iterator
    × (l.square-iterator.size ≡ l.self.size)
    × Listing g.Q.Tone.Tone.algebra (squares_of g.P.Plan.meaning l.self) l.codes l.amounts l.square-iterator.place l.count l.initial.places l.places l.initial.errors l.errors
