-- An array that a closure makes, which is the same closure at every call.
use Rattle.std.proofs.Common.{◌≡◌, ℕ, zero, suc, ◌+◌, ◌≤◌, ◌<◌, List, get_or, ⊎_elim, subst, sym, arith}
use Rattle.std.proofs.lemmas.Bool.{cases_lt}
use Rattle.std.specs.Array.{IsFromFnResultFrom}
use Rattle.std.specs.Fn.{Called}
use denote.Param.Members.{Mut}

-- what each call tells of what it gave holds of the element
pub each_made : {F B : Type 0} (g : Mut F (ℕ × Unit {0}) B) (P : ℕ → B → Type 0) (f : F)
    → ((i : ℕ) (y : B) (q : F) → Called g f (i, tt) y q → (q ≡ f) × P i y)
    → (ys : List B) (i n : ℕ) → IsFromFnResultFrom g f ys i n → (k : ℕ) (d : B) → i ≤ k → k < i + n → P k (get_or ys k d)
each_made g P f step ys i zero made k d low high = absurd (omega arith)
each_made g P f step ys i (suc n) made k d low high =
    let called = step i made.1 made.0 made.3 in
    ⊎_elim
    (λ (h : i < k). each_made g P f step ys (i + 1) n (subst (λ q. IsFromFnResultFrom g q ys (i + 1) n) called.0 made.4) k d (omega arith) (omega arith))
    (λ (h : k ≤ i).
    let e : i ≡ k = omega arith in
    subst (λ j. P j (get_or ys j d)) e (subst (P i) (sym (made.2.1 d)) called.1))
    (cases_lt i k)
