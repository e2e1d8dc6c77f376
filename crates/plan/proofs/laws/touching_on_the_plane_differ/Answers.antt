use Rattle.plan.specs.PlaneLemmas.{on_the_plane}
use Rattle.plan.proofs.laws.touching_on_the_plane_differ.Goals as goal

pub returns : goal.returns
returns g c = λ p. on_the_plane (g.P.Plan.meaning p) (g.met.P.Plan.lawful p)
