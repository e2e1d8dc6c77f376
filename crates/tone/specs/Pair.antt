-- A pair of any two tones as a tone, each half treated alone.
use Rattle.tone.specs.Algebra.{Algebra}
use Rattle.tone.specs.declared.pair.Pair.{Pair}

abbrev pub pair_of : {L R : Type 0} → L → R → Pair L R
pair_of x y = record { first = x; second = y }

abbrev pub pair_algebra : {L R : Type 0} → Algebra L → Algebra R → Algebra (Pair L R)
pair_algebra l r = record {
  zero = pair_of l.zero r.zero;
  sum = λ x y. pair_of (l.sum x.first y.first) (r.sum x.second y.second);
  difference = λ x y. pair_of (l.difference x.first y.first) (r.difference x.second y.second);
  share = λ e w W. pair_of (l.share e.first w W) (r.share e.second w W);
}
