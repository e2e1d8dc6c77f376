use Rattle.std.proofs.Common.{◌≡◌, ◌≤◌}
use Rattle.tone.specs.Sums.{total}
use Rattle.diffusion.specs.Bands.{spread}
use Rattle.diffusion.specs.Draft.{sends, shared_before}
use Rattle.job.specs.Meaning.{squares_of}
use Rattle.job.specs.Patterns.{last_number}
use Rattle.job.proofs.job.Job.spread.Given as goal

abbrev pub invariant-loop-direction : goal.invariant-loop-direction
invariant-loop-direction g l =
    let tone = g.Q.Tone.Tone.algebra in
    let squares = squares_of g.P.Plan.meaning l.self in
    (l.direction-index ≤ last_number l.pattern.last → l.given ≡ total tone (shared_before tone squares l.place l.error) l.direction-index)
    × (l.amounts ≡ spread tone squares l.place (sends tone squares l.place l.error) l.direction-index l.initial.amounts)
