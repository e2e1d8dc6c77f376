-- Packed bits, read again by division.
use Rattle.std.proofs.Common.{◌≡◌, ℕ, zero, suc, ◌+◌, ◌-◌, ◌*◌, ◌/◌, ◌%◌, ◌^◌, ◌<◌, ◌≤◌, Bool, ltb, List, length, get_or, drop, sym, refl, ap, ◌∙◌, add-zero, mul_comm, pow-suc, arith, length-drop}
use native.Mathlib.Nat.{div-div-eq-div-mul}
use Rattle.std.proofs.lemmas.List.{get_or-drop}
use Rattle.std.proofs.lemmas.List.FromFn.{get_or-map-range_with_len}
use Rattle.std.proofs.lemmas.Bool.Decides.{nat_tests}
use Rattle.bits.specs.Bits.{binary, bit_at, byte_of, packed, bit_in}
use Rattle.bits.proofs.Binary.{binary_more, bit_at_le}

-- the front of a binary number, by division
binary_front : (f : ℕ → ℕ) → ((k : ℕ) → f k ≤ 1) → (n d : ℕ) → binary f (n + d) / 2 ^ d ≡ binary f n
binary_front f one n zero = ap (λ m. binary f m / 1) (add-zero n) ∙ omega arith
binary_front f one n (suc d) =
    let e : binary f (n + suc d) ≡ binary f (n + d) * 2 + f (n + d) = ap (binary f) (omega arith) ∙ binary_more f (n + d) in
    let h : binary f (n + suc d) / 2 ≡ binary f (n + d) = omega (arith, e, one (n + d)) in
    let p : 2 ^ suc d ≡ 2 * 2 ^ d = pow-suc 2 d ∙ mul_comm (2 ^ d) 2 in
    ap (λ m. binary f (n + suc d) / m) p ∙ sym (div-div-eq-div-mul (binary f (n + suc d)) 2 (2 ^ d)) ∙ ap (λ m. m / 2 ^ d) h ∙ binary_front f one n d

bit_of_byte : (f : ℕ → ℕ) → ((k : ℕ) → f k ≤ 1) → (j : ℕ) → j < 8 → binary f 8 / 2 ^ (7 - j) % 2 ≡ f j
bit_of_byte f one j h =
    let split : 8 ≡ (j + 1) + (7 - j) = omega arith in
    let front : binary f 8 / 2 ^ (7 - j) ≡ binary f (j + 1) = ap (λ m. binary f m / 2 ^ (7 - j)) split ∙ binary_front f one (j + 1) (7 - j) in
    omega (arith, front, binary_more f j, one j)

-- the bit of a code, found from the eighth before it on
bit_at-drop : (marks : ℕ → Bool) (codes : List ℕ) (m j : ℕ) → bit_at marks (drop m codes) j ≡ bit_at marks codes (m + j)
bit_at-drop marks codes m j =
    let long = length-drop m codes in
    let same : ltb j (length (drop m codes)) ≡ ltb (m + j) (length codes) = grind (arith, nat_tests) in
    rw (same, get_or-drop m codes j 0) refl

pub bit_kept : (marks : ℕ → Bool) (n : ℕ) (codes : List ℕ) (k : ℕ) → k < 8 * n → bit_in (packed marks n codes) k ≡ bit_at marks codes k
bit_kept marks n codes k h =
    let b = k / 8 in
    let j = k % 8 in
    let f = bit_at marks (drop (8 * b) codes) in
    let byte : get_or (packed marks n codes) b 0 ≡ binary f 8 = get_or-map-range_with_len (λ b. byte_of marks (drop (8 * b) codes)) 0 n b b 0 (omega arith) (omega arith) in
    let place : 8 * b + j ≡ k = omega arith in
    ap (λ x. x / 2 ^ (7 - j) % 2) byte ∙ bit_of_byte f (bit_at_le marks (drop (8 * b) codes)) j (omega arith)
    ∙ bit_at-drop marks codes (8 * b) j ∙ ap (bit_at marks codes) place
