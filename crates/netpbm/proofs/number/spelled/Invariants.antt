use Rattle.std.proofs.Common.{◌≡◌, ◌+◌, ◌≤◌, length, drop}
use Rattle.netpbm.specs.Words.{capped, spelled, word_from}
use Rattle.netpbm.proofs.number.spelled.Given as goal

abbrev pub invariant-loop-length : goal.invariant-loop-length
invariant-loop-length l =
    (capped (spelled l.value (word_from (drop l.length l.bytes))) ≡ capped (spelled 0 (word_from l.bytes)))
    × (l.length + length (word_from (drop l.length l.bytes)) ≡ length (word_from l.bytes))
    × (l.value ≤ 65535)
