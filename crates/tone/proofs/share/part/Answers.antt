use Rattle.std.proofs.lemmas.Int.{to_z-of_z}
use Rattle.tone.proofs.Parts.{narrow, quotient}
use Rattle.tone.proofs.share.part.Goals as goal

pub overflow_cast-result : goal.overflow_cast-result
overflow_cast-result c =
    rw (quotient _ _ _ c.ranges.e c.ranges.total.fits c.requires.less _ _ _ c.from.ensures c.from-2.ensures c.divided.ensures)
    (narrow _ _ _ c.ranges.e c.ranges.total.fits c.requires.less)

pub returns : goal.returns
returns c =
    rw (quotient _ _ _ c.ranges.e c.ranges.total.fits c.requires.less _ _ _ c.from.ensures c.from-2.ensures c.divided.ensures)
    (to_z-of_z _ _ (narrow _ _ _ c.ranges.e c.ranges.total.fits c.requires.less))
