-- What `min_by_key` picks out of a range of codes: the first at which the key is smallest.
use Rattle.std.proofs.Common.{◌≡◌, ℕ, zero, suc, ◌+◌, ◌-◌, ◌≤◌, cond, [], ◌∷◌, length, get_or, drop, Option, Some, None, unwrap_or, nat_lt, sym, refl, ap, ◌∙◌, subst, add-zero, arith}
use denote.Param.Members.{Mut}
use denote.Ref.{Bor}
use Rattle.std.specs.Fn.{CalledAt}
use Rattle.std.specs.Iterator.{ActsAsAt, KeyTurn, PicksMinByKey}
use Rattle.std.specs.List.{FoldsTo, range_with_len}
use Rattle.std.specs.Ordering.{nat_cmp, min_by_ordering}
use Rattle.std.specs.declared.cmp.Ordering.{Ordering}
use Rattle.std.specs.declared.cmp.Ordering.TheVariants.{Less, Equal, Greater}
use Rattle.std.specs.declared.ops.Range.{Range}
use Rattle.std.proofs.iter.Yields.{nat_range_steps, Range-gives, gives_Drains}
use Rattle.std.proofs.lemmas.Bool.Decides.{nat_tests}
use Rattle.std.proofs.lemmas.List.{map-id}
use Rattle.std.proofs.lemmas.List.FromFn.{length-range_with_len}
use Rattle.quantiser.specs.Least.{least}
use Rattle.quantiser.specs.Smallest.{least_more, least_lt}

-- the first of two codes, or the second where its key is smaller
better : (f : ℕ → ℕ) (b x : ℕ) → min_by_ordering (nat_cmp (f b) (f x)) b x ≡ cond (nat_lt (f x) (f b)) x b
better f b x = grind (arith, nat_tests)

key_of_better : (f : ℕ → ℕ) (o : Ordering) (b x : ℕ) → min_by_ordering o (f b) (f x) ≡ f (min_by_ordering o b x)
key_of_better f Less b x = refl
key_of_better f Equal b x = refl
key_of_better f Greater b x = refl

module _ {F : Type 0} (g : Mut F (Bor ℕ × Unit {0}) ℕ) (key : F) (f : ℕ → ℕ) (calls : ActsAsAt g key f) where
  -- over n codes from i on, where b is the best of those before
  along : (n i k b y : ℕ) (p : F) (q : F × ℕ) → p ≡ key → k ≡ f b → b ≡ least f i
      → FoldsTo {P = (F × ℕ) × ℕ} (KeyTurn min_by_ordering min_by_ordering g nat_cmp) ((p, k), b) (range_with_len i n) (q, y) → y ≡ least f (i + n)
  along zero i k b y p q ep ek eb e = sym (ap (λ (z : (F × ℕ) × ℕ). z.1) e) ∙ eb ∙ ap (least f) (sym (add-zero i))
  along (suc n) i k b y p q ep ek eb (j, turn, rest) =
      let call = calls i turn.0 j.0.0 (subst (λ (s : F). CalledAt g s i turn.0 j.0.0) ep turn.2) in
      let which : turn.1 ≡ nat_cmp (f b) (f i) = sym turn.3 ∙ ap (λ z. nat_cmp z turn.0) ek ∙ ap (nat_cmp (f b)) call.1 in
      let best : j.1 ≡ least f (i + 1) =
      turn.5 ∙ ap (λ o. min_by_ordering o b i) which ∙ better f b i ∙ ap (λ z. cond (nat_lt (f i) (f z)) i z) eb ∙ sym (least_more f i) in
      let least_key : j.0.1 ≡ f j.1 =
      turn.4 ∙ ap (λ z. min_by_ordering turn.1 z turn.0) ek ∙ ap (min_by_ordering turn.1 (f b)) call.1 ∙ key_of_better f turn.1 b i ∙ ap f (sym turn.5) in
      along n (i + 1) j.0.1 j.1 y j.0.0 q call.0 least_key best rest ∙ ap (least f) (omega arith)

  pub picked : (len : ℕ) (o : Option ℕ) → 1 ≤ len → PicksMinByKey nat_range_steps g nat_cmp (record { start = 0; end = len }) key o → unwrap_or o 0 ≡ least f len
  picked zero o some h = absurd (omega arith)
  picked (suc m) None some h =
      let s : Range ℕ = record { start = 0; end = suc m } in
      let all = gives_Drains nat_range_steps (λ x. x) [] (range_with_len 0 (suc m - 0)) s (Range-gives s) h in
      absurd (omega (arith, ap length all, length-range_with_len 0 (suc m - 0)))
  picked (suc m) (Some y) some (x, xs, k, p, q, drains, called, folds) =
      let s : Range ℕ = record { start = 0; end = suc m } in
      let n : suc m - 0 ≡ suc m = omega arith in
      let all : x ∷ xs ≡ range_with_len 0 (suc m) = sym (map-id (x ∷ xs)) ∙ gives_Drains nat_range_steps (λ x. x) (x ∷ xs) (range_with_len 0 (suc m - 0)) s (Range-gives s) drains ∙ ap (range_with_len 0) n in
      let first : x ≡ least f 1 = ap (λ l. get_or l 0 0) all ∙ omega (arith, least_lt f 0) in
      let call = calls x k p called in
      along m 1 k x y p q call.0 call.1 first (subst (λ l. FoldsTo {P = (F × ℕ) × ℕ} (KeyTurn min_by_ordering min_by_ordering g nat_cmp) ((p, k), x) l (q, y)) (ap (drop 1) all) folds) ∙ ap (least f) (omega arith)
