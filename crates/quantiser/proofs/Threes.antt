-- Bytes taken three by three.
use Rattle.std.proofs.Common.{◌≡◌, ℕ, zero, suc, ◌+◌, ◌*◌, ◌<◌, List, [], get_or, take, drop, refl, ap, ◌∙◌, add-zero, arith}
use Rattle.std.specs.Simd.{first_chunks}
use Rattle.std.proofs.lemmas.List.{drop-drop, get_or-take, get_or-drop}
use Rattle.quantiser.specs.Palette.{entry_at}

three_at : (n k : ℕ) (xs : List ℕ) → k < n → get_or (first_chunks 3 n xs) k [] ≡ take 3 (drop (3 * k) xs)
three_at zero k xs h = absurd (omega arith)
three_at (suc n) zero xs h = refl
three_at (suc n) (suc k) xs h =
    let next : 3 + 3 * k ≡ 3 * suc k = omega arith in
    three_at n k (drop 3 xs) (omega arith) ∙ ap (take 3) (drop-drop (3 * k) 3 xs) ∙ ap (λ m. take 3 (drop m xs)) next

byte_at : (n k j : ℕ) (xs : List ℕ) → k < n → j < 3 → get_or (get_or (first_chunks 3 n xs) k []) j 0 ≡ get_or xs (3 * k + j) 0
byte_at n k j xs h l = ap (λ b. get_or b j 0) (three_at n k xs h) ∙ get_or-take 3 (drop (3 * k) xs) j 0 l ∙ get_or-drop (3 * k) xs j 0

-- the colour of the three bytes at k
pub entry-three : (n k : ℕ) (xs : List ℕ) → k < n → entry_at (get_or (first_chunks 3 n xs) k []) 0 ≡ entry_at xs k
entry-three n k xs h =
    let first = byte_at n k 0 xs h (omega arith) ∙ ap (λ m. get_or xs m 0) (add-zero (3 * k)) in
    let second = byte_at n k 1 xs h (omega arith) in
    let third = byte_at n k 2 xs h (omega arith) in
    rw (first, second, third) refl
