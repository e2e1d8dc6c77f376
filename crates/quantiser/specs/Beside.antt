-- Two quantisers side by side.
use Rattle.std.specs.Prelude.{◌≡◌, ℕ, ◌+◌, ◌*◌, ◌/◌, ◌%◌, ◌<◌, cond, nat_lt}
use Rattle.tone.specs.Algebra.{Algebra}
use Rattle.tone.specs.Pair.{pair_of, pair_algebra}
use Rattle.tone.specs.declared.pair.Pair.{Pair}
use Rattle.quantiser.specs.Codes.{joined, first_of, second_of}
use Rattle.quantiser.specs.Tables.{Tables}
use Rattle.quantiser.specs.declared.counts.Counts.{Counts}

-- what two quantisers mean together under the counts that are kept for them
abbrev pub side_by_side : {L R : Type 0} → Algebra L → Algebra R → Counts → Tables L → Tables R → Tables (Pair L R)
side_by_side x y k l r = record {
  count = k.first * k.second;
  choice = λ p. joined k (l.choice p.first) (r.choice p.second);
  output = λ c. cond (nat_lt c (k.first * k.second)) (pair_of (l.output (first_of k c)) (r.output (second_of k c))) (pair_algebra x y).zero;
}

-- where the counts that are kept are the quantisers' own: with second count n, the code is first code × n + second code, and its output
-- the pair of theirs
pub record Beside {X Y : Type 0} (l : Tables X) (r : Tables Y) (t : Tables (Pair X Y)) : Type 0 where
  pub count : t.count ≡ l.count * r.count
  pub choice : (x : X) (y : Y) → t.choice (pair_of x y) ≡ l.choice x * r.count + r.choice y
  pub output : (c : ℕ) → c < l.count * r.count → t.output c ≡ pair_of (l.output (c / r.count)) (r.output (c % r.count))
