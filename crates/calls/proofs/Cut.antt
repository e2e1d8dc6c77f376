-- T window cut to its pool shows and fills what the uncut one does.
use Rattle.std.proofs.Common.{◌≡◌, ℕ, ◌+◌, ◌-◌, ◌≤◌, ltb, ◌⊎◌, List, ◌++◌, length, take, drop, sym, ap, ◌∙◌, ap₂, inl, inr, arith, length-drop}
use borrow.Rule.Slice.PartMut.{put_mid}
use Rattle.std.proofs.lemmas.List.{take_all, drop_all}
use Rattle.std.proofs.lemmas.Bool.{cases_lt, cond-true, cond-false, lt-ltb, le-ltb}
use Rattle.diffusion.specs.Bands.{Bands}
use Rattle.model.specs.Jobs.{Job}
use Rattle.model.specs.Calls.{Answer, wrote, listed, inside, refill}
use Rattle.model.specs.Steps.{halt_on, losses_on}
use Rattle.calls.specs.declared.window.Window.{Window}
use Rattle.calls.specs.Windows.{low_end, high_end}
use Rattle.calls.specs.Works.{window_of, halt_in, losses_in}

module _ {X : Type 0} (w : Window) (xs : List X) where
  -- the cut start drops and takes the same
  drop_low : drop (low_end w (length xs)) xs ≡ drop w.start xs
  drop_low = elim (cases_lt w.start (length xs)) [
    | inl l ↦ ap (λ n. drop n xs) (cond-true (ltb w.start (length xs)) _ _ (lt-ltb _ _ l))
    | inr l ↦ ap (λ n. drop n xs) (cond-false (ltb w.start (length xs)) _ _ (le-ltb _ _ l)) ∙ drop_all (length xs) xs (omega arith) ∙ sym (drop_all w.start xs l)
  ]

  take_low : take (low_end w (length xs)) xs ≡ take w.start xs
  take_low = elim (cases_lt w.start (length xs)) [
    | inl l ↦ ap (λ n. take n xs) (cond-true (ltb w.start (length xs)) _ _ (lt-ltb _ _ l))
    | inr l ↦ ap (λ n. take n xs) (cond-false (ltb w.start (length xs)) _ _ (le-ltb _ _ l)) ∙ take_all (length xs) xs (omega arith) ∙ sym (take_all w.start xs l)
  ]

  pub low_le : low_end w (length xs) ≤ length xs
  low_le = elim (cases_lt w.start (length xs)) [
    | inl l ↦ omega (arith, cond-true (ltb w.start (length xs)) w.start (length xs) (lt-ltb _ _ l))
    | inr l ↦ omega (arith, cond-false (ltb w.start (length xs)) w.start (length xs) (le-ltb _ _ l))
  ]

  -- the cut length, of what is left
  cut : ℕ
  cut = high_end w (length xs) - low_end w (length xs)

  cut_cases : (cut ≡ w.length) ⊎ ((length xs - low_end w (length xs) ≤ w.length) × (cut ≡ length xs - low_end w (length xs)))
  unfolding cut
  cut_cases = elim (cases_lt w.length (length xs - low_end w (length xs))) [
    | inl l ↦ (let e = cond-true (ltb w.length (length xs - low_end w (length xs))) (low_end w (length xs) + w.length) (length xs) (lt-ltb _ _ l) in inl (omega (arith, e)))
    | inr l ↦ (let e = cond-false (ltb w.length (length xs - low_end w (length xs))) (low_end w (length xs) + w.length) (length xs) (le-ltb _ _ l) in inr (l, ap (λ n. n - low_end w (length xs)) e))
  ]

  take_cut : take cut (drop (low_end w (length xs)) xs) ≡ take w.length (drop (low_end w (length xs)) xs)
  take_cut = elim cut_cases [
    | inl e ↦ ap (λ n. take n (drop (low_end w (length xs)) xs)) e
    | inr q ↦ (let long = length-drop (low_end w (length xs)) xs in
        take_all cut _ (omega (arith, long, q.1)) ∙ sym (take_all w.length _ (omega (arith, long, q.0))))
  ]

  drop_cut : drop cut (drop (low_end w (length xs)) xs) ≡ drop w.length (drop (low_end w (length xs)) xs)
  drop_cut = elim cut_cases [
    | inl e ↦ ap (λ n. drop n (drop (low_end w (length xs)) xs)) e
    | inr q ↦ (let long = length-drop (low_end w (length xs)) xs in
        drop_all cut _ (omega (arith, long, q.1)) ∙ sym (drop_all w.length _ (omega (arith, long, q.0))))
  ]

  pub inside_cut : (low high : ℕ) → low ≡ low_end w (length xs) → high ≡ high_end w (length xs) → take (high - low) (drop low xs) ≡ inside (window_of w) xs
  unfolding cut
  inside_cut low high a b = ap₂ (λ x y. take (y - x) (drop x xs)) a b ∙ take_cut ∙ ap (take w.length) drop_low

  pub refill_cut : (low high : ℕ) (ys : List X) → low ≡ low_end w (length xs) → high ≡ high_end w (length xs) → put_mid low (high - low) xs ys ≡ refill (window_of w) xs ys
  unfolding cut
  refill_cut low high ys a b =
      ap₂ (λ x y. take x xs ++ (ys ++ drop (y - x) (drop x xs))) a b
      ∙ ap₂ (λ x z. x ++ (ys ++ z)) take_low (drop_cut ∙ ap (drop w.length) drop_low)

-- what a call wrote into the cut window, in the pool
pub halt_cut : {T : Type 0} (p : Job T) (b : Bands T) (w : Window) (bytes : List ℕ) (low high : ℕ) (a : Answer T) (out : List ℕ)
    → low ≡ low_end w (length bytes) → high ≡ high_end w (length bytes) → wrote a out ≡ halt_on p b (take (high - low) (drop low bytes))
    → wrote a (put_mid low (high - low) bytes out) ≡ halt_in p b (window_of w) bytes
halt_cut p b w bytes low high a out k m e =
    ap (wrote a) (refill_cut w bytes low high out k m)
    ∙ ap (λ x. wrote x.answer (refill (window_of w) bytes x.out)) (e ∙ ap (halt_on p b) (inside_cut w bytes low high k m))

pub losses_cut : {T : Type 0} (p : Job T) (b : Bands T) (w v : Window) (places : List ℕ) (errors : List T) (low high from to : ℕ) (a : Answer T) (ps : List ℕ) (es : List T)
    → low ≡ low_end w (length places) → high ≡ high_end w (length places) → from ≡ low_end v (length errors) → to ≡ high_end v (length errors)
    → listed a ps es ≡ losses_on p b (take (high - low) (drop low places)) (take (to - from) (drop from errors))
    → listed a (put_mid low (high - low) places ps) (put_mid from (to - from) errors es) ≡ losses_in p b (window_of w) (window_of v) places errors
losses_cut p b w v places errors low high from to a ps es k m q r e =
    ap₂ (listed a) (refill_cut w places low high ps k m) (refill_cut v errors from to es q r)
    ∙ ap (λ x. listed x.answer (refill (window_of w) places x.places) (refill (window_of v) errors x.errors))
    (e ∙ ap₂ (losses_on p b) (inside_cut w places low high k m) (inside_cut v errors from to q r))
