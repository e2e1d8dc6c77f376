-- A part of an error: no greater than the whole, and exact on its way through 64 bits and back.
use Rattle.std.proofs.Common.{◌≡◌, ℕ, zero, suc, ◌*◌, ◌/◌, ◌^◌, ◌<◌, ◌≤◌, Bool, true, false, cond, ◌&&◌, ltb, leb, ℤ, pos, negsuc, ◌*ℤ◌, neg_ℤ, sym, refl, ap, ◌∙◌, subst, le_of_lt, mul_comm, mul-le-mul_left, zero-mul, lit<, arith, w32, w64, SFits, to_z, of_z}
use native.Mathlib.Nat.{zero-div, div-le_of_le-mul}
use Rattle.std.specs.Int.Signed.{mag, quot_z, nat_abs-le}
use Rattle.std.proofs.lemmas.Int.{to_z-of_z, int_wrap_fits, fits_signed_mul}
use Rattle.std.proofs.lemmas.Bool.{and_parts, ltb-true}
use Rattle.std.proofs.lemmas.Bool.Decides.{nat_tests}
use Rattle.tone.specs.Grey.{usable, part_of, share_value, grey_algebra}
use Rattle.tone.specs.Laws.{Cut}
use Rattle.tone.specs.declared.grey.Grey.{Grey}

quot_neg : (n d : ℕ) → quot_z (neg_ℤ (pos n)) (pos d) ≡ neg_ℤ (pos (n / d))
quot_neg zero d = rw zero-div
quot_neg (suc n) d = refl

mag_neg : (r a : ℕ) → r ≤ suc a → mag (neg_ℤ (pos r)) ≤ a
mag_neg zero a h = omega arith
mag_neg (suc r) a h = omega arith

smaller : (a w W : ℕ) → w < W → a * w / W ≤ a
smaller a w W h = div-le_of_le-mul W (omega (arith, mul-le-mul_left a (le_of_lt h), mul_comm a W))

-- a part is no greater than the whole
pub part_le : (e : ℤ) (w W : ℕ) → w < W → mag (part_of e w W) ≤ mag e
part_le (pos a) w W h = smaller a w W h
part_le (negsuc a) w W h = subst (λ (z : ℤ). mag z ≤ a) (sym (quot_neg (suc a * w) W)) (mag_neg (suc a * w / W) a (smaller (suc a) w W h))

pub share_le : (e : ℤ) (w W : ℕ) → mag (share_value e w W) ≤ mag e
share_le e w W = by (usable w W) refl
  where
    by : (b : Bool) → usable w W ≡ b → mag (cond b (part_of e w W) (pos 0)) ≤ mag e
    by true u = part_le e w W (ltb-true w W (and_parts (ltb w W) (leb W 12) (and_parts (leb 1 w) (ltb w W && leb W 12) u).1).0)
    by false u = omega arith

-- a share never wraps
pub share_exact : (e : Grey) (w W : ℕ) → (grey_algebra.share e w W).value ≡ share_value e.value w W
share_exact e w W = int_wrap_fits w32 (share_value e.value w W) (record { sfits = omega (arith, share_le e.value w W, e.fits) })

times_neg : (n w : ℕ) → neg_ℤ (pos n) *ℤ pos w ≡ neg_ℤ (pos (n * w))
times_neg zero w = rw zero-mul
times_neg (suc n) w = refl

pub cut : (n w W : ℕ) → 1 ≤ w → w < W → W ≤ 12 → Cut n w W
cut n w W some less most = record {
  above = λ e is. share_exact e w W ∙ ap (λ z. share_value z w W) is ∙ used (pos n);
  below = λ e is. share_exact e w W ∙ ap (λ z. share_value z w W) is ∙ used (neg_ℤ (pos n)) ∙ ap (λ z. quot_z z (pos W)) (times_neg n w) ∙ quot_neg (n * w) W;
}
  where
    used : (z : ℤ) → share_value z w W ≡ part_of z w W
    used z = grind (arith, nat_tests)

-- what the code passes through: the whole and the weight at 64 bits, their product, and its part
module _ (e : ℤ) (w W : ℕ) (f : SFits w32 e) (top : W < 2 ^ 8) (lt : w < W) where
  pub narrow : SFits w32 (part_of e w W)
  narrow = record { sfits = omega (arith, part_le e w W lt, f.sfits) }

  pub quotient : (x y z : ℤ) → x ≡ to_z w32 (of_z w32 e) → y ≡ pos w → z ≡ quot_z (to_z w64 (of_z w64 (to_z w64 (of_z w64 x) *ℤ to_z w64 (of_z w64 y)))) (pos W) → to_z w64 (of_z w64 z) ≡ part_of e w W
  quotient x y z is_x is_y is =
      let e64 : SFits w64 e = record { sfits = omega (arith, f.sfits) } in
      let weight64 : SFits w64 (pos w) = record { sfits = omega arith } in
      let product64 : SFits w64 (e *ℤ pos w) = fits_signed_mul w64 e (pos w) (2 ^ 31) (2 ^ 8) (nat_abs-le e f.sfits) (omega arith) (lit< tt) in
      let part64 : SFits w64 (part_of e w W) = record { sfits = omega (arith, narrow.sfits) } in
      rw (is, is_x, is_y, to_z-of_z w32 e f, to_z-of_z w64 e e64, to_z-of_z w64 (pos w) weight64, to_z-of_z w64 (e *ℤ pos w) product64) (to_z-of_z w64 (part_of e w W) part64)
