use Rattle.std.proofs.Common.{◌≡◌, map, take}
use Rattle.drafting.specs.Drafts.{grey}
use Rattle.drafting.proofs.tones.put_greys.Given as goal

abbrev pub invariant-loop-i : goal.invariant-loop-i
invariant-loop-i l = take l.i l.drawing ≡ map grey (take l.i l.bytes)
