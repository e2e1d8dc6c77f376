-- A draft as a raw PBM, and when there is none.
use Rattle.std.specs.Prelude.{◌≡◌, ℕ, ◌+◌, ◌*◌, ◌<◌, cond, ◌&&◌, List, [], ◌∷◌, ◌++◌, length, take, drop, decimal, Result, MatchResult, ◌==◌, nat_le, nat_lt, slice_index}
use Rattle.std.specs.List.{range_with_len, flat_map}
use Rattle.bits.specs.Bits.{packed, black, bytes_for, bit_in}
use Rattle.refusal.specs.declared.refusal.Refusal.{Refusal}
use Rattle.refusal.specs.Numbers.{number_of}

-- P4, LF, columns, one space, rows, LF
abbrev pub header : ℕ → ℕ → List ℕ
header rows columns = (80 ∷ 52 ∷ 10 ∷ []) ++ decimal columns ++ (32 ∷ []) ++ decimal rows ++ (10 ∷ [])

-- the codes of row r
abbrev pub row_of : ℕ → List ℕ → ℕ → List ℕ
row_of columns codes r = take columns (drop (r * columns) codes)

-- the rows in order, a bit to a square, 1 for code 0, each row padded with zeros to a byte
abbrev pub raster : ℕ → ℕ → List ℕ → List ℕ
raster rows columns codes = flat_map (λ r. packed black (bytes_for columns) (row_of columns codes r)) (range_with_len 0 rows)

-- the whole file
abbrev pub pbm : ℕ → ℕ → List ℕ → List ℕ
pbm rows columns codes = header rows columns ++ raster rows columns codes

-- the number by which a code above 1 is refused: 10 for 255, which says open, else 11
abbrev pub code_refusal : ℕ → ℕ
code_refusal c = cond (c == 255) 10 11

-- that of the first code above 1, and 0 where there is none
abbrev pub codes_refusal : List ℕ → ℕ
codes_refusal [] = 0
codes_refusal (c ∷ cs) = cond (nat_le c 1) (codes_refusal cs) (code_refusal c)

-- the number of the refusal for an output with room for so many bytes, 0 for none: 2 for another count of codes than of squares,
-- then 6 for too little room, then that of the codes
abbrev pub pack_refusal : ℕ → ℕ → List ℕ → ℕ → ℕ
pack_refusal rows columns codes room =
    cond (length codes == rows * columns) (cond (nat_lt room (length (pbm rows columns codes))) 6 (codes_refusal codes)) 2

-- what Pack answers, and what it makes of the output that was old: the PBM and what lay behind, or all as it was
abbrev pub Packs : ℕ → ℕ → List ℕ → List ℕ → Result ℕ Refusal → List ℕ → Type 0
Packs rows columns codes old r new =
    MatchResult r
    (λ n. (pack_refusal rows columns codes (length old) ≡ 0) × (n ≡ length (pbm rows columns codes)) × (new ≡ pbm rows columns codes ++ drop n old))
    (λ e. (number_of e ≡ pack_refusal rows columns codes (length old)) × (new ≡ old))

-- behind the header each row begins with a byte of its own; its bit c tells whether the code in column c is 0, and is 0 behind the last column
abbrev pub EverySquareHasItsBit : Type 0
EverySquareHasItsBit =
    (rows columns : ℕ) (codes : List ℕ) (r c : ℕ) → length codes ≡ rows * columns → r < rows → c < 8 * bytes_for columns
    → bit_in (drop (length (header rows columns) + r * bytes_for columns) (pbm rows columns codes)) c ≡ cond (nat_lt c columns && black (slice_index codes (r * columns + c))) 1 0
