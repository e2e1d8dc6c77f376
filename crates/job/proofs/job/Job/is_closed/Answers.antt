use Rattle.std.proofs.Common.{◌*◌, refl, ap, ◌∙◌, rules, tests}
use Rattle.std.proofs.lemmas.Iterator.Search.{all_from_yields_List}
use Rattle.job.specs.Meaning.{squares_of}
use Rattle.job.specs.Maps.{may_stand}
use Rattle.job.proofs.Forms.{all_first}
use Rattle.job.proofs.ReadingOrders.{places_come, serves_inside}
use Rattle.job.proofs.job.Job.is_closed.Goals as goal

pub all-requires-clause-callable : goal.all-requires-clause-callable
all-requires-clause-callable g c =
    serves_inside (λ s. s.size) (λ s. s.place) c.in_reading_order.result c.args.self.now.size c.in_reading_order.ensures.size _ refl (λ x q k. search rules)
    (λ x here. search (rules, here, c.requires))

pub returns : goal.returns
returns g c =
    let may = may_stand (squares_of g.P.Plan.meaning c.args.self.now) c.args.saved.now.bits.bytes.now in
    let size = c.args.self.now.size in
    let n = size.rows * size.columns in
    all_from_yields_List may c.all.new.self _ c.all.result c.all.ensures.ran
    (places_come (λ s. s.size) (λ s. s.place) c.in_reading_order.result c.in_reading_order.ensures.first n (ap (λ z. z.rows * z.columns) c.in_reading_order.ensures.size)) (λ x b q k. search (rules, tests))
    ∙ all_first may n
