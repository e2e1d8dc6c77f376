-- Codes below their counts give a code below the product.
use Rattle.std.specs.Prelude.{ℕ, ◌*◌, ◌<◌, nat_lt}
use Rattle.std.proofs.Common.{arith, mul_comm}
use Rattle.std.proofs.lemmas.Nat.{mul-add-lt}
use Rattle.std.proofs.lemmas.Bool.{cond-false, le-ltb}
use Rattle.std.proofs.lemmas.Bool.Decides.{nat_tests}
use Rattle.tone.specs.Algebra.{Algebra}
use Rattle.tone.specs.Pair.{pair_algebra}
use Rattle.quantiser.specs.Tables.{Tables, Sound}
use Rattle.quantiser.specs.Beside.{side_by_side}
use Rattle.quantiser.specs.Codes.{below, joined}
use Rattle.quantiser.specs.declared.counts.Counts.{Counts}

pub first_some : (k : Counts) → 0 < k.first
first_some k = let h = k.some in grind arith

pub second_some : (k : Counts) → 0 < k.second
second_some k = let h = k.some in grind arith

pub below_lt : (n c : ℕ) → 0 < n → below n c < n
below_lt n c h = grind (arith, nat_tests)

pub joined_lt : (k : Counts) (a b : ℕ) → joined k a b < k.first * k.second
joined_lt k a b = omega (arith, mul-add-lt (below k.first a) k.second (below k.second b) k.first (below_lt k.first a (first_some k)) (below_lt k.second b (second_some k)), mul_comm k.first k.second)

module _ {L R : Type 0} (x : Algebra L) (y : Algebra R) (k : Counts) (l : Tables L) (r : Tables R) where
  pub side_sound : Sound (pair_algebra x y) (side_by_side x y k l r)
  side_sound = record {
    some = k.some;
    few = k.few;
    within = λ p. joined_lt k (l.choice p.first) (r.choice p.second);
    lacking = λ c h. cond-false (nat_lt c (k.first * k.second)) _ _ (le-ltb c (k.first * k.second) h);
  }
