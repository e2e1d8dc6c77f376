use Rattle.plan.specs.PlaneLemmas.{modulo_apart}
use Rattle.plan.proofs.laws.touching_modulo_periods_differ.Goals as goal

pub returns : goal.returns
returns g c = λ p. modulo_apart (g.P.Plan.meaning p) (g.met.P.Plan.lawful p)
