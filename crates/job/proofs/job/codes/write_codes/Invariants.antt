use Rattle.std.proofs.Common.{length}
use Rattle.job.proofs.Unpacking.{Written}
use Rattle.job.proofs.job.codes.write_codes.Given as goal

abbrev pub invariant-loop-place : goal.invariant-loop-place
invariant-loop-place l = Written (length l.initial.codes) l.saved.bits.bytes.now l.place l.given.rest.now l.codes
