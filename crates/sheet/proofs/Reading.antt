-- The array that holds the ranks of a row.
use Rattle.std.proofs.Common.{◌≡◌, ℕ, ◌≤◌, ◌<◌, List, get_or, ⊎_elim, arith}
use Rattle.std.proofs.lemmas.Bool.{cases_lt}
use Rattle.std.proofs.lemmas.List.{get_or_past}
use Rattle.std.specs.Array.{IsFromFnResult}
use Rattle.std.specs.Fn.{Called}
use Rattle.plan.proofs.Made.{each_made}
use Rattle.sheet.specs.Sheets.{Reads}
use denote.Param.Members.{Mut}

-- so the array holds r 0, r 1, .. up to a count, and 0 behind, where the closure gives these
pub reads_made : {F : Type 0} (g : Mut F (ℕ × Unit {0}) ℕ) (r : ℕ → ℕ) (count n : ℕ) (f : F)
    → ((i y : ℕ) (q : F) → Called g f (i, tt) y q → (q ≡ f) × ((i < count → y ≡ r i) × (count ≤ i → y ≡ 0)))
    → (ys : List ℕ) → IsFromFnResult g f ys n → count ≤ n → Reads r count ys
reads_made g r count n f step ys made room = record {
  inside = λ k h. (each k (omega arith)).0 h;
  behind = λ k h. ⊎_elim (λ l. (each k l).1 h) (λ l. get_or_past ys k 0 (omega (arith, made.long))) (cases_lt k n);
}
  where
    each : (k : ℕ) → k < n → (k < count → get_or ys k 0 ≡ r k) × (count ≤ k → get_or ys k 0 ≡ 0)
    each k l = each_made g (λ i y. (i < count → y ≡ r i) × (count ≤ i → y ≡ 0)) f step ys 0 n made.each k 0 (omega arith) (omega arith)
