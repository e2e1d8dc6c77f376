-- The test of the limits decides them.
use Rattle.std.proofs.Common.{◌≡◌, ℕ, true, false, ⊎_elim, arith}
use Rattle.std.proofs.lemmas.Bool.{cases_Bool}
use Rattle.std.proofs.lemmas.Bool.Decides.{nat_tests}
use Rattle.grid.specs.Limits.{Within, within}

pub within_true : (rows columns : ℕ) → Within rows columns → within rows columns ≡ true
within_true rows columns w = grind (arith, nat_tests)

pub Within-from : (rows columns : ℕ) → within rows columns ≡ true → Within rows columns
Within-from rows columns e =
    record { tall = grind (arith, nat_tests); low = grind (arith, nat_tests); wide = grind (arith, nat_tests); narrow = grind (arith, nat_tests); small = grind (arith, nat_tests) }

pub within_false : (rows columns : ℕ) → (Within rows columns → ⊥) → within rows columns ≡ false
within_false rows columns outside = ⊎_elim (λ t. absurd (outside (Within-from rows columns t))) (λ f. f) (cases_Bool (within rows columns))
