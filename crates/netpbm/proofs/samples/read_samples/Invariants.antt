use Rattle.std.proofs.Common.{◌≡◌, ◌+◌, map, take, drop, None}
use Rattle.std.specs.List.{range_with_len}
use Rattle.netpbm.specs.Words.{after}
use Rattle.netpbm.specs.Pgm.{first_fault, tone_in}
use Rattle.netpbm.proofs.samples.read_samples.Given as goal

abbrev pub invariant-loop-tone : goal.invariant-loop-tone
invariant-loop-tone l =
    record {
      place : l.at ≡ after l.reader.input.now (3 + l.tone-index);
      clean : first_fault l.reader.input.now l.tone-index ≡ None;
      front : take l.tone-index l.tone-items ≡ map (tone_in l.reader.input.now) (range_with_len 0 l.tone-index);
      back : drop l.tone-index l.tone-items ≡ drop l.tone-index l.initial.tone-items;
    }
