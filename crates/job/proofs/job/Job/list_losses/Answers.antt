use Rattle.std.proofs.Common.{◌≡◌, ◌+◌, ◌*◌, ◌<◌, length, sym, refl, ◌∙◌, arith, rules}
use Rattle.std.proofs.lemmas.List.{get_or_read}
use Rattle.job.specs.Meaning.{squares_of}
use Rattle.job.proofs.Barons.{room}
use Rattle.job.proofs.Listed.{listing_none, listing_at, listing_more, listing_same}
use Rattle.job.proofs.Reading.{place-below, inside-same}
use Rattle.job.proofs.Standing.{lost_read}
use Rattle.job.proofs.job.Job.list_losses.Goals as goal

pub loop-square-init : goal.loop-square-init
loop-square-init g c =
    let a = g.Q.Tone.Tone.algebra in
    let squares = squares_of g.P.Plan.meaning c.args.self.now in
    let codes = c.args.codes.now in
    let amounts = c.args.amounts.now in
    let first : 0 ≡ c.into_iter-square-iterator.result.place = search rules in
    (tt, tt, search rules, listing_at a squares codes amounts first refl refl refl (listing_none a squares codes amounts c.args.places.now c.args.errors.now))

pub bounds-places-count : goal.bounds-places-count
bounds-places-count g c =
    let j = c.args.self.now in
    let squares = squares_of g.P.Plan.meaning j in
    let codes = c.args.codes.now in
    let step = c.in-Some.ensures.steps.1 in
    let below = place-below j.size c.in-Some.square (inside-same _ _ c.in-Some.square c.loop-square.invariant.2 step.inside) in
    let so_far = listing_at g.Q.Tone.Tone.algebra squares codes c.args.amounts.now (sym step.is) refl refl refl c.loop-square.invariant.3 in
    omega (arith, room squares codes c.in-Some.square.place c.loop-square.count (j.size.rows * j.size.columns) (length c.args.places.now) below c.requires.codes c.if-is_lost.ensures so_far.many c.requires.places)

pub bounds-errors-count : goal.bounds-errors-count
bounds-errors-count g c =
    let j = c.args.self.now in
    let squares = squares_of g.P.Plan.meaning j in
    let codes = c.args.codes.now in
    let step = c.in-Some.ensures.steps.1 in
    let below = place-below j.size c.in-Some.square (inside-same _ _ c.in-Some.square c.loop-square.invariant.2 step.inside) in
    let so_far = listing_at g.Q.Tone.Tone.algebra squares codes c.args.amounts.now (sym step.is) refl refl refl c.loop-square.invariant.3 in
    omega (arith, room squares codes c.in-Some.square.place c.loop-square.count (j.size.rows * j.size.columns) (length c.args.errors.now) below c.requires.codes c.if-is_lost.ensures so_far.many c.requires.errors)

pub loop-square-preserved-then-is_lost : goal.loop-square-preserved-then-is_lost
loop-square-preserved-then-is_lost g c =
    let a = g.Q.Tone.Tone.algebra in
    let j = c.args.self.now in
    let squares = squares_of g.P.Plan.meaning j in
    let codes = c.args.codes.now in
    let amounts = c.args.amounts.now in
    let step = c.in-Some.ensures.steps in
    let same = c.loop-square.invariant.2 in
    let n = c.in-Some.square.place in
    let below = place-below j.size c.in-Some.square (inside-same _ _ c.in-Some.square same step.1.inside) in
    let inside : n < length codes = omega arith in
    let within : n < length amounts = omega arith in
    let next : n + 1 ≡ c.next.new.self.place = omega (arith, step.1.is, step.1.rises) in
    let so_far = listing_at a squares codes amounts (sym step.1.is) refl refl refl c.loop-square.invariant.3 in
    let read = sym (lost_read codes n inside squares c.is_lost.result c.is_lost.ensures) ∙ c.if-is_lost.true in
    let space = room squares codes n c.loop-square.count (j.size.rows * j.size.columns) (length c.args.places.now) below c.requires.codes c.if-is_lost.ensures so_far.many c.requires.places in
    let space-too = room squares codes n c.loop-square.count (j.size.rows * j.size.columns) (length c.args.errors.now) below c.requires.codes c.if-is_lost.ensures so_far.many c.requires.errors in (
      tt,
      tt,
      step.0 ∙ same,
      listing_at a squares codes amounts next refl refl refl
          (listing_more a squares codes amounts n c.loop-square.count c.args.places.now c.loop-square.places c.args.errors.now c.loop-square.errors c.index-amounts-square.result so_far
          read (omega arith) (omega arith) (get_or_read amounts n c.index-amounts-square.result within c.index-amounts-square.is a.zero)),
    )

pub loop-square-preserved : goal.loop-square-preserved
loop-square-preserved g c =
    let a = g.Q.Tone.Tone.algebra in
    let j = c.args.self.now in
    let squares = squares_of g.P.Plan.meaning j in
    let codes = c.args.codes.now in
    let amounts = c.args.amounts.now in
    let step = c.in-Some.ensures.steps in
    let same = c.loop-square.invariant.2 in
    let n = c.in-Some.square.place in
    let below = place-below j.size c.in-Some.square (inside-same _ _ c.in-Some.square same step.1.inside) in
    let inside : n < length codes = omega arith in
    let next : n + 1 ≡ c.next.new.self.place = omega (arith, step.1.is, step.1.rises) in
    let so_far = listing_at a squares codes amounts (sym step.1.is) refl refl refl c.loop-square.invariant.3 in
    let read = lost_read codes n inside squares c.is_lost.result c.is_lost.ensures in (
      tt,
      tt,
      step.0 ∙ same,
      listing_at a squares codes amounts next refl refl refl
          (listing_same a squares codes amounts n c.loop-square.count c.args.places.now c.loop-square.places c.args.errors.now c.loop-square.errors so_far (sym read ∙ c.if-is_lost.false)),
    )
