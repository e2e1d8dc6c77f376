-- A test that holds of every number of a range.
use Rattle.std.proofs.Common.{◌≡◌, ℕ, ◌+◌, ◌-◌, ◌<◌, ◌≤◌, Bool, true, false, length, get_or, MatchBool, subst, arith}
use Rattle.std.specs.List.{AllWithin, range_with_len}
use Rattle.std.proofs.lemmas.Bool.{false≢true}
use Rattle.std.proofs.lemmas.List.FromFn.{length-range_with_len, get_or-range_with_len}

pub all_in_range : (P : ℕ → Type 0) (Q : Type 0) (r : Bool) (a n : ℕ)
    → MatchBool r (AllWithin P (range_with_len a n) 0 (length (range_with_len a n))) Q
    → r ≡ true → (k : ℕ) → a ≤ k → k < a + n → P k
all_in_range P Q true a n h e k low high =
    subst P {x = get_or (range_with_len a n) (k - a) 0} {y = k} (omega (arith, get_or-range_with_len a n (k - a) 0 (omega arith)))
    (h (k - a) 0 (omega arith) (omega (arith, length-range_with_len a n)))
all_in_range P Q false a n h e k low high = absurd (false≢true e)
