use Rattle.std.proofs.Common.{◌<◌, length, sym, refl, arith}
use Rattle.job.proofs.Unpacking.{written_none, left_begin, written_standing, written_open, not_each, codes_all}
use Rattle.job.proofs.job.codes.write_codes.Goals as goal
use Rattle.job.proofs.job.codes.write_codes.Goals.{then-is_standing+else-next, else-is_standing}

pub loop-place-init : goal.loop-place-init
loop-place-init c = rw c.iter-given.ensures.rest (written_none _ _ _ _ _ c.requires c.codes.ensures.codes c.codes.ensures.due)

pub unwrap-next-requires : goal.unwrap-next-requires
unwrap-next-requires c =
    let some : 0 < length c.loop-place.given.rest.now = rw (left_begin _ _ _ _ _ c.loop-place.invariant c.loop-place-test.true (sym c.if-is_standing.ensures)) (omega arith) in
    grind arith

pub returns-then-next : goal.returns-then-next
returns-then-next c =
    (refl, not_each _ _ _ _ _ c.loop-place.invariant c.loop-place-test.true _ _ (sym c.if-is_standing.ensures) (rw c.unwrap-next.ensures at c.next.ensures.steps) c.if-next.true)

pub loop-place-preserved : goal.loop-place-preserved
loop-place-preserved c =
    let inside : c.loop-place.place < length c.loop-place.codes = omega arith in
    elim c.if-is_standing.branch [
      | then-is_standing+else-next w ↦ rw (w.codes-is, w.given-is)
          (written_standing _ _ _ _ _ c.loop-place.invariant c.loop-place-test.true _ _ inside (sym w.if-is_standing.ensures) (rw w.unwrap-next.ensures at w.next.ensures.steps) w.if-next.false)
      | else-is_standing w ↦ rw (w.codes-is, w.given-is) (written_open _ _ _ _ _ c.loop-place.invariant c.loop-place-test.true inside (sym w.if-is_standing.ensures))
    ]

pub returns : goal.returns
returns c = codes_all _ _ _ _ _ c.loop-place.invariant c.loop-place-test.false c.loop-place.auto.codes
