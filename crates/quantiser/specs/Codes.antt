-- Two codes in one: first × n + second, with n the second count.
use Rattle.std.specs.Prelude.{ℕ, ◌+◌, ◌*◌, ◌/◌, ◌%◌, cond, nat_lt}
use Rattle.quantiser.specs.declared.counts.Counts.{Counts}

-- a code below n is itself, and any other is taken for 0
abbrev pub below : ℕ → ℕ → ℕ
below n c = cond (nat_lt c n) c 0

abbrev pub joined : Counts → ℕ → ℕ → ℕ
joined k a b = below k.first a * k.second + below k.second b

abbrev pub first_of : Counts → ℕ → ℕ
first_of k c = c / k.second

abbrev pub second_of : Counts → ℕ → ℕ
second_of k c = c % k.second
