-- What a test of each number below a bound tells, where the numbers come from a range.
use Rattle.std.proofs.Common.{◌≡◌, ℕ, ◌<◌, Bool, true, false, MatchBool, List, Option, subst, ◌∙◌, zero-add, arith, refl}
use Rattle.std.proofs.iter.Yields.{nat_range_steps}
use Rattle.std.proofs.lemmas.Iterator.{cases_from_all, YieldsList-from_range}
use Rattle.std.proofs.lemmas.List.FromFn.{length-range_with_len, get_or-range_with_len}
use Rattle.std.specs.Fn.{Called}
use Rattle.std.specs.Iterator.{YieldsThen}
use Rattle.std.specs.List.{range_with_len, FoldsTo, AllWithin, HoldsAt}
use Rattle.std.specs.Option.{MatchOption}
use Rattle.std.specs.declared.ops.Range.{Range}
use denote.Param.Members.{Mut}
use lib.ListN.{length}

-- a test whose `true` tells Each of its number, and whose `false` tells No
pub all_below : {F : Type 0} {g : Mut F (ℕ × Unit {0}) Bool} (n : ℕ) (u : Range ℕ) (f : F) (r : Bool) (Each : ℕ → Type 0) (All No : Type 0)
    → (xs : List ℕ) × (o : Option ℕ) × (j : F) × YieldsThen nat_range_steps (record { start = 0; end = n }) xs o u × FoldsTo (λ p x q. Called g p (x, tt) true q) f xs j × MatchOption o (r ≡ true) (λ x. (r ≡ false) × ((h : F) × Called g j (x, tt) false h))
    → ((x : ℕ) (q : F) → Called g f (x, tt) true q → (q ≡ f) × Each x)
    → ((x : ℕ) (q : F) → Called g f (x, tt) false q → No)
    → (((k : ℕ) → k < n → Each k) → All)
    → MatchBool r All No
all_below n u f r Each All No ran passed failed joined =
    told r (cases_from_all u f r Each (λ _. No) ran (YieldsList-from_range 0 n n refl (omega arith)) passed failed)
  where
    told : (b : Bool) → MatchBool b (AllWithin Each (range_with_len 0 n) 0 (length (range_with_len 0 n))) ((k : ℕ) × (k < length (range_with_len 0 n)) × HoldsAt (λ _. No) (range_with_len 0 n) k) → MatchBool b All No
    told true each = joined (λ k lt. subst Each (get_or-range_with_len 0 n k 0 lt ∙ zero-add k) (each k 0 (omega arith) (omega (arith, length-range_with_len 0 n))))
    told false one = one.2 0
