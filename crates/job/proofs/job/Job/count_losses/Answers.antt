use Rattle.std.proofs.Common.{◌*◌, length, sym, ap, ◌∙◌, subst, arith, rules, tests}
use Rattle.std.proofs.lemmas.Iterator.Consumers.{YieldsList-at, YieldsList-from_filter, count_from_yields_List}
use Rattle.grid.specs.Squares.{Inside}
use Rattle.job.specs.Meaning.{squares_of}
use Rattle.job.proofs.Barons.{is_lost, filter_all}
use Rattle.job.proofs.Reading.{place-below}
use Rattle.job.proofs.ReadingOrders.{places_come, serves_inside}
use Rattle.job.proofs.job.Job.count_losses.Goals as goal

pub count-requires-clause-can : goal.count-requires-clause-can
count-requires-clause-can g c =
    let size = c.args.self.now.size in (
      tt,
      tt,
      serves_inside (λ s. s.size) (λ s. s.place) c.filter.result.iter size (ap (λ s. s.size) c.filter.ensures.source ∙ c.in_reading_order.ensures.size) _ c.filter.ensures.closure
          (λ x q r. search (rules, tests)) (λ x at y e.
          let within = subst (Inside size) (sym e) at in
          ((λ _ _ _ _ _ _ _ _. omega (arith, place-below size y.now within)), (λ _ _ _ _ _ _ _ _ _ _ _ _. within))),
    )

pub returns : goal.returns
returns g c =
    let squares = squares_of g.P.Plan.meaning c.args.self.now in
    let codes = c.args.codes.now in
    let n = c.args.self.now.size.rows * c.args.self.now.size.columns in
    count_from_yields_List c.filter.result _ c.count.ensures.ran
    (YieldsList-from_filter _ (is_lost squares codes) (YieldsList-at c.filter.ensures.source (places_come (λ s. s.size) (λ s. s.place) c.in_reading_order.result c.in_reading_order.ensures.first n (ap (λ z. z.rows * z.columns) c.in_reading_order.ensures.size))) c.filter.ensures.closure (λ x b q k. search (rules, tests)))
    ∙ ap length (filter_all squares codes n (omega arith))
