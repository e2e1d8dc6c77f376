use Rattle.std.proofs.Common.{◌≡◌, ◌*◌, ◌<◌, length, get_or, cond, filter, sym, refl, ap, ◌∙◌, subst, zero-add, arith, rules, tests}
use Rattle.std.specs.List.{fold, range_with_len}
use Rattle.std.proofs.lemmas.Iterator.Consumers.{YieldsList-at, YieldsList-from_filter}
use Rattle.std.proofs.lemmas.List.{get_or_read}
use Rattle.std.proofs.lemmas.List.FromFn.{length-range_with_len, get_or-range_with_len}
use Rattle.grid.specs.Squares.{Inside}
use Rattle.tone.specs.Sums.{total}
use Rattle.job.specs.Meaning.{squares_of}
use Rattle.job.specs.Shown.{loss_at, tone_at}
use Rattle.job.proofs.Barons.{is_lost}
use Rattle.job.proofs.Bounded.{Below, below_range, below_filter, fold_below, serves_below}
use Rattle.job.proofs.Folds.{folded}
use Rattle.job.proofs.Reading.{place-below}
use Rattle.job.proofs.Standing.{lost_read}
use Rattle.job.proofs.ReadingOrders.{places_come, serves_inside}
use Rattle.job.proofs.job.Job.sum_losses.Goals as goal

pub fold-requires-clause-can : goal.fold-requires-clause-can
fold-requires-clause-can g c =
    let size = c.args.self.now.size in (
      tt,
      tt,
      serves_inside (λ s. s.size) (λ s. s.place) c.filter.result.iter size (ap (λ s. s.size) c.filter.ensures.source ∙ c.in_reading_order.ensures.size) _ c.filter.ensures.closure
          (λ x q r. search (rules, tests)) (λ x at y e.
          let within = subst (Inside size) (sym e) at in
          ((λ _ _ _ _ _ _ _ _. omega (arith, place-below size y.now within, c.requires.codes)), (λ _ _ _ _ _ _ _ _ _ _ _ _. within))),
    )

pub fold-requires-clause-callable : goal.fold-requires-clause-callable
fold-requires-clause-callable g c =
    let j = c.args.self.now in
    let squares = squares_of g.P.Plan.meaning j in
    let codes = c.args.codes.now in
    let n = j.size.rows * j.size.columns in
    let lost = filter (is_lost squares codes) (range_with_len 0 n) in
    let small : Below n lost = below_filter n (is_lost squares codes) (range_with_len 0 n) (below_range n 0 n (omega arith)) in
    serves_below n small
    (YieldsList-from_filter _ (is_lost squares codes) (YieldsList-at c.filter.ensures.source (places_come (λ s. s.size) (λ s. s.place) c.in_reading_order.result c.in_reading_order.ensures.first n (ap (λ z. z.rows * z.columns) c.in_reading_order.ensures.size))) c.filter.ensures.closure (λ x b q k. search (rules, tests)))
    (λ b x q r. search (rules, tests))
    (λ b x low.
    let inside : x.place < length c.args.amounts.now = omega (arith, low, c.requires.amounts) in
    ((λ _ _ _ _ _ _. omega arith), (λ _ _ _ _ _ _. inside)))

pub returns : goal.returns
returns g c =
    let a = g.Q.Tone.Tone.algebra in
    let j = c.args.self.now in
    let squares = squares_of g.P.Plan.meaning j in
    let codes = c.args.codes.now in
    let amounts = c.args.amounts.now in
    let n = j.size.rows * j.size.columns in
    let places = range_with_len 0 n in
    let lost = filter (is_lost squares codes) places in
    let small : Below n lost = below_filter n (is_lost squares codes) places (below_range n 0 n (omega arith)) in
    fold_below n small _ (λ s at. a.sum s (tone_at a amounts at)) _ c.fold.result c.fold.ensures.ran
    (YieldsList-from_filter _ (is_lost squares codes) (YieldsList-at c.filter.ensures.source (places_come (λ s. s.size) (λ s. s.place) c.in_reading_order.result c.in_reading_order.ensures.first n (ap (λ z. z.rows * z.columns) c.in_reading_order.ensures.size))) c.filter.ensures.closure (λ x b q k. search (rules, tests)))
    (λ s x b q k. search (rules, tests))
    (λ s x b q low k. let inside : x.place < length amounts = omega (arith, low, c.requires.amounts) in search (rules, get_or_read))
    ∙ ap (λ z. fold (λ s at. a.sum s (tone_at a amounts at)) z lost) c.zero.ensures
    ∙ folded a g.met.Q.Tone.Tone.lawful (is_lost squares codes) (tone_at a amounts) (loss_at a squares codes amounts) 0 places (λ k low.
    let long = length-range_with_len 0 n in
    let inside : k < length codes = omega (arith, c.requires.codes) in
    let at : get_or places k 0 ≡ k = get_or-range_with_len 0 n k 0 (omega arith) ∙ zero-add k in
    ap (λ b. cond b (tone_at a amounts k) a.zero) (sym (lost_read codes k inside squares (is_lost squares codes k) refl))
    ∙ ap (λ i. cond (is_lost squares codes i) (tone_at a amounts i) a.zero) (sym at))
    ∙ ap (total a (loss_at a squares codes amounts)) (length-range_with_len 0 n)
