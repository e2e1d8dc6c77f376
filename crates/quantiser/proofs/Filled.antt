-- What an array filled by `from_fn` holds, where each call of the closure gives what a function gives.
use Rattle.std.proofs.Common.{◌≡◌, ℕ, zero, suc, ◌+◌, ◌<◌, List, get_or, sym, refl, ap, ◌∙◌, subst, add-zero, zero-add, arith}
use denote.Param.Members.{Mut}
use Rattle.std.specs.Array.{IsFromFnResultFrom, IsFromFnResult}
use Rattle.std.specs.Fn.{Called}
use Rattle.std.specs.Iterator.{ActsAs}

module _ {F B : Type 0} (g : Mut F (ℕ × Unit {0}) B) (make : F) (h : ℕ → B) (calls : ActsAs g make h) where
  filled_from : (n i : ℕ) (f : F) (ys : List B) → f ≡ make → IsFromFnResultFrom g f ys i n → (k : ℕ) (d : B) → k < n → get_or ys (i + k) d ≡ h (i + k)
  filled_from zero i f ys e each k d l = absurd (omega arith)
  filled_from (suc n) i f ys e (q, y, at, called, each) zero d l =
      let call = calls i y q (subst (λ (s : F). Called g s (i, tt) y q) e called) in
      ap (λ m. get_or ys m d) (add-zero i) ∙ at.1 d ∙ call.1 ∙ ap h (sym (add-zero i))
  filled_from (suc n) i f ys e (q, y, at, called, each) (suc k) d l =
      let call = calls i y q (subst (λ (s : F). Called g s (i, tt) y q) e called) in
      let next : i + suc k ≡ i + 1 + k = omega arith in
      ap (λ m. get_or ys m d) next ∙ filled_from n (i + 1) q ys call.0 each k d (omega arith) ∙ ap h (sym next)

  pub filled : (ys : List B) (n : ℕ) → IsFromFnResult g make ys n → (k : ℕ) (d : B) → k < n → get_or ys k d ≡ h k
  filled ys n made k d l = subst (λ m. get_or ys m d ≡ h m) (zero-add k) (filled_from n 0 make ys refl made.each k d l)
