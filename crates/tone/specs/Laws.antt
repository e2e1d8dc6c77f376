-- What follows from the laws of a tone, and what cutting toward zero means.
use Rattle.std.specs.Prelude.{◌≡◌, ℕ, ◌*◌, ◌/◌, ◌<◌, ◌≤◌, List, ◌++◌, pos, neg_ℤ, fold}
use Rattle.tone.specs.Algebra.{Algebra}
use Rattle.tone.specs.Grey.{grey_algebra}
use Rattle.tone.specs.Sums.{sum_of, total, Permutation}
use Rattle.tone.specs.declared.grey.Grey.{Grey}

pub record Cancels {X : Type 0} (a : Algebra X) : Type 0 where
  pub cancel : (x y z : X) → a.sum x z ≡ a.sum y z → x ≡ y
  pub forth : (x y : X) → a.difference (a.sum x y) y ≡ x

abbrev pub InAnyOrder : {X : Type 0} → Algebra X → Type 0
InAnyOrder {X} a = (xs ys : List X) → Permutation xs ys → sum_of a xs ≡ sum_of a ys

pub record Joins {X : Type 0} (a : Algebra X) : Type 0 where
  pub start : (x : X) (xs : List X) → fold a.sum x xs ≡ a.sum x (sum_of a xs)
  pub append : (xs ys : List X) → sum_of a (xs ++ ys) ≡ a.sum (sum_of a xs) (sum_of a ys)

abbrev pub Exchanges : {X : Type 0} → Algebra X → Type 0
Exchanges {X} a = (f : ℕ → ℕ → X) (m n : ℕ) → total a (λ i. total a (f i) n) m ≡ total a (λ j. total a (λ i. f i j) m) n

-- the share of n, and of -n, by w of W
pub record Cut (n w W : ℕ) : Type 0 where
  pub above : (e : Grey) → e.value ≡ pos n → (grey_algebra.share e w W).value ≡ pos (n * w / W)
  pub below : (e : Grey) → e.value ≡ neg_ℤ (pos n) → (grey_algebra.share e w W).value ≡ neg_ℤ (pos (n * w / W))

-- at every weight at which a share is used
abbrev pub CutTowardZero : Type 0
CutTowardZero = (n w W : ℕ) → 1 ≤ w → w < W → W ≤ 12 → Cut n w W
