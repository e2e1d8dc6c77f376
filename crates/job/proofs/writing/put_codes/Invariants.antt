use Rattle.std.proofs.Common.{◌≡◌, length, take, filter}
use Rattle.bits.specs.Bits.{fixed}
use Rattle.job.proofs.writing.put_codes.Given as goal

abbrev pub invariant-loop-at : goal.invariant-loop-at
invariant-loop-at l = take (length l.yielded) l.out ≡ take (length l.yielded) (filter fixed l.codes)
