-- Eight bits and a byte, and the map of a code band.
use Rattle.std.proofs.Common.{◌≡◌, ℕ, zero, suc, ◌+◌, ◌-◌, ◌*◌, ◌/◌, ◌%◌, ◌^◌, ◌<◌, ◌≤◌, Bool, true, false, cond, ◌&&◌, eqb, ltb, List, length, get_or, drop, sym, refl, ap, ◌∙◌, ap₂, add-zero, mul_comm, pow-suc, arith, length-drop}
use native.Mathlib.Nat.{div-div-eq-div-mul}
use Rattle.std.proofs.lemmas.List.{get_or-drop}
use Rattle.std.proofs.lemmas.Bool.Decides.{Decides-ltb, Decides-like, same_from_decides}
use Rattle.bits.specs.Bits.{fixed, bit_at, binary}
use Rattle.bits.proofs.Binary.{binary_more}

pub binary-same : (f g : ℕ → ℕ) (n : ℕ) → ((k : ℕ) → k < n → f k ≡ g k) → binary f n ≡ binary g n
unfolding binary
binary-same f g zero h = refl
binary-same f g (suc n) h = ap₂ (λ x y. x * 2 + y) (binary-same f g n (λ k l. h k (omega arith))) (h n (omega arith))

-- the front of a binary number, by division
binary_front : (f : ℕ → ℕ) → ((k : ℕ) → f k ≤ 1) → (n d : ℕ) → binary f (n + d) / 2 ^ d ≡ binary f n
binary_front f one n zero = ap (λ m. binary f m / 1) (add-zero n) ∙ omega arith
binary_front f one n (suc d) =
    let e : binary f (n + suc d) ≡ binary f (n + d) * 2 + f (n + d) = ap (binary f) (omega arith) ∙ binary_more f (n + d) in
    let h : binary f (n + suc d) / 2 ≡ binary f (n + d) = omega (arith, e, one (n + d)) in
    let q : 2 ^ suc d ≡ 2 * 2 ^ d = pow-suc 2 d ∙ mul_comm (2 ^ d) 2 in
    ap (λ m. binary f (n + suc d) / m) q ∙ sym (div-div-eq-div-mul (binary f (n + suc d)) 2 (2 ^ d)) ∙ ap (λ m. m / 2 ^ d) h ∙ binary_front f one n d

-- a bit of the byte made of eight
pub bit_is : (f : ℕ → ℕ) → ((k : ℕ) → f k ≤ 1) → (i : ℕ) → i < 8 → binary f 8 / 2 ^ (7 - i) % 2 ≡ f i
bit_is f one i h =
    let split : 8 ≡ (i + 1) + (7 - i) = omega arith in
    let front : binary f 8 / 2 ^ (7 - i) ≡ binary f (i + 1) = ap (λ m. binary f m / 2 ^ (7 - i)) split ∙ binary_front f one (i + 1) (7 - i) in
    omega (arith, front, binary_more f i, one i)

-- a byte is made of its eight bits
pub byte_is : (x : ℕ) → x < 256 → binary (λ i. x / 2 ^ (7 - i) % 2) 8 ≡ x
unfolding binary
byte_is x l = omega arith

-- whether the code at k stands in a map
abbrev pub marked : List ℕ → ℕ → Bool
marked cs k = ltb k (length cs) && fixed (get_or cs k 0)

pub marked_is : (cs : List ℕ) (k : ℕ) → eqb (bit_at fixed cs k) 1 ≡ marked cs k
marked_is cs k = one_is (marked cs k)
  where
    one_is : (b : Bool) → eqb (cond b 1 0) 1 ≡ b
    one_is true = refl
    one_is false = refl

-- the bits behind the first m
pub bit_drop : (m : ℕ) (cs : List ℕ) (k : ℕ) → bit_at fixed (drop m cs) k ≡ bit_at fixed cs (m + k)
bit_drop m cs k =
    let long = length-drop m cs in
    let same : ltb k (length (drop m cs)) ≡ ltb (m + k) (length cs) =
    same_from_decides _ _ (Decides-ltb k (length (drop m cs))) (Decides-like _ (λ h. omega (arith, long, h)) (λ h. omega (arith, long, h)) (Decides-ltb (m + k) (length cs))) in
    ap₂ (λ b c. cond (b && fixed c) 1 0) same (get_or-drop m cs k 0)
