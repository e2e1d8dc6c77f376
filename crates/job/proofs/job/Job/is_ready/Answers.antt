use Rattle.std.proofs.Common.{◌≡◌, Bool, true, false, rules}
use Rattle.std.proofs.lemmas.Iterator.{cases_from_all, YieldsList-from_slice}
use Rattle.grid.specs.declared.direction.Direction.{Direction}
use Rattle.job.specs.Meaning.{squares_of}
use Rattle.job.proofs.Eight.{directions}
use Rattle.job.proofs.Readies.{free, ready_told}
use Rattle.job.proofs.job.Job.is_ready.Goals as goal

pub returns : goal.returns
returns g c set told =
    let squares = squares_of g.P.Plan.meaning c.args.self.now in
    let free-here : Direction → Bool = free squares set c.args.place in
    ready_told squares set c.args.place c.all.result
    (cases_from_all _ _ c.all.result (λ direction. true ≡ free-here direction) (λ direction. false ≡ free-here direction) c.all.ensures.ran
    (YieldsList-from_slice directions c.iter.ensures.rest) (λ x q k. search rules) (λ x q k. search rules))
