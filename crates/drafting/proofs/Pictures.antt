-- What Read leaves where it finds no fault.
use Rattle.std.proofs.Common.{◌≡◌, ℕ, ◌*◌, ◌≤◌, Bool, true, false, cond, ◌&&◌, leb, List, map, get_or, take, drop, is_some, Some, None, Option, sym, refl, ap, ◌∙◌, arith}
use Rattle.std.specs.List.{range_with_len}
use Rattle.std.proofs.lemmas.List.FromFn.{length-map-range_with_len, get_or-map-range_with_len}
use Rattle.std.proofs.lemmas.List.{get_or-map, take_at}
use Rattle.std.proofs.lemmas.Bool.{leb-true}
use Rattle.tone.specs.Grey.{no_grey}
use Rattle.grid.specs.Limits.{within}
use Rattle.netpbm.specs.Words.{start, after}
use Rattle.netpbm.specs.Pgm.{Told, or_else, unless, begins, rows_in, columns_in, greatest_in, squares_in, number_fault, head_fault, first_fault, sound, read_fault, tones_read, tone_in, filled}
use Rattle.netpbm.specs.Pgm.Told.{told}
use Rattle.netpbm.proofs.Faults.{sound_all}
use Rattle.drafting.specs.Drafts.{grey, codes_of, finished}
use Rattle.drafting.proofs.DraftCodes.{codes_same}

first_none : (f g : Option Told) → or_else f g ≡ None → f ≡ None
first_none None g e = refl
first_none (Some f) g e = e

second_none : (f g : Option Told) → or_else f g ≡ None → g ≡ None
second_none None g e = e
second_none (Some f) g e = let z : ◌≡◌ {A = ℕ} 0 1 = cc in absurd (omega arith)

passed : (t : Bool) (f : Told) → unless t f ≡ None → t ≡ true
passed true f e = refl
passed false f e = let z : ◌≡◌ {A = ℕ} 0 1 = cc in absurd (omega arith)

-- of several tests in turn the last has passed
last-passed : (a b c d e f : Option Told) (t : Bool) (g : Told) → or_else a (or_else b (or_else c (or_else d (or_else e (or_else f (unless t g)))))) ≡ None → t ≡ true
last-passed a b c d e f t g h =
    let o₁ = unless t g in
    let o₂ = or_else f o₁ in
    let o₃ = or_else e o₂ in
    let o₄ = or_else d o₃ in
    let o₅ = or_else c o₄ in
    let o₆ = or_else b o₅ in
    passed t g (second_none f o₁ (second_none e o₂ (second_none d o₃ (second_none c o₄ (second_none b o₅ (second_none a o₆ h))))))

-- there is room for every square
pub room_for_all : (input : List ℕ) (room : ℕ) → read_fault input room ≡ None → squares_in input ≤ room
room_for_all input room e =
    leb-true (squares_in input) room
    (last-passed (unless (begins input) (told 12 0)) (number_fault input (after input 0)) (number_fault input (after input 1)) (number_fault input (after input 2))
    (unless (within (rows_in input) (columns_in input)) (told 1 0)) (unless (leb 1 (greatest_in input) && leb (greatest_in input) 255) (told 14 (start input (after input 2))))
    (leb (squares_in input) room) (told 6 0) (first_none (head_fault input room) (first_fault input (squares_in input)) e))

-- every tone is read
pub all_read : (input : List ℕ) (room : ℕ) → read_fault input room ≡ None → tones_read input room ≡ squares_in input
all_read input room e =
    ap (λ f. cond (is_some f) 0 (sound input (squares_in input))) (first_none (head_fault input room) (first_fault input (squares_in input)) e)
    ∙ sound_all input (squares_in input) (second_none (head_fault input room) (first_fault input (squares_in input)) e)

-- so the front of the band is the drawing
pub band_front : (input old : List ℕ) (room n : ℕ) → read_fault input room ≡ None → n ≡ squares_in input
    → take n (filled input (tones_read input room) old) ≡ map (tone_in input) (range_with_len 0 n)
band_front input old room n e is =
    let many : tones_read input room ≡ n = all_read input room e ∙ sym is in
    ap (λ k. take n (filled input k old)) many ∙ take_at (map (tone_in input) (range_with_len 0 n)) (drop n old) n (length-map-range_with_len (tone_in input) 0 n)

-- and the codes of the tones in the band are those of the tones in the input
pub codes_of_tones : (input : List ℕ) (rows columns : ℕ)
    → finished rows columns (map grey (map (tone_in input) (range_with_len 0 (rows * columns)))) ≡ codes_of rows columns (λ s. grey (tone_in input s))
codes_of_tones input rows columns =
    let n = rows * columns in
    let tones = map (tone_in input) (range_with_len 0 n) in
    codes_same rows columns (λ s. get_or (map grey tones) s no_grey) (λ s. grey (tone_in input s))
    (λ s h. get_or-map grey tones s 0 no_grey (omega (arith, length-map-range_with_len (tone_in input) 0 n))
    ∙ ap grey (get_or-map-range_with_len (tone_in input) 0 n s s 0 h (omega arith)))
