-- The threshold quantiser.
use Rattle.std.specs.Prelude.{cond, pos, ◌==◌, int_le}
use Rattle.std.proofs.Common.{lit<}
use Rattle.tone.specs.Grey.{no_grey}
use Rattle.tone.specs.declared.grey.Grey.{Grey}
use Rattle.quantiser.specs.Tables.{Tables}
use Rattle.quantiser.specs.declared.threshold.Threshold.{Threshold}

-- what code 1 puts out
abbrev pub white : Grey
white = record { value = pos 255; fits = lit< tt }

abbrev pub by_threshold : Threshold → Tables Grey
by_threshold t = record {
  count = 2;
  choice = λ x. cond (int_le t.least x.value) 1 0;
  output = λ c. cond (c == 1) white no_grey;
}
