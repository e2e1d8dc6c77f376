-- Every square of a draft in its PBM.
use Rattle.std.proofs.Common.{◌≡◌, ℕ, zero, suc, ◌+◌, ◌-◌, ◌*◌, ◌/◌, ◌%◌, ◌^◌, ◌<◌, cond, ◌&&◌, ltb, List, ◌++◌, length, get_or, drop, sym, refl, ap, ◌∙◌, ⊎_elim, arith, length-drop}
use Rattle.std.proofs.lemmas.List.{get_or_append_left, get_or-append-add, get_or-drop, get_or-take, length-take-le, drop-drop, drop_at}
use Rattle.std.proofs.lemmas.Bool.{cases_eq, cases_lt, le-ltb}
use Rattle.bits.specs.Bits.{packed, black, bytes_for, bit_at, bit_in}
use Rattle.bits.proofs.Unpacked.{bit_kept}
use Rattle.netpbm.specs.Pbm.{header, raster, row_of, pbm}
use Rattle.netpbm.proofs.Rows.{raster_more, length-raster, row_fits}

-- byte j of row r in the raster
byte_of_row : (rows columns : ℕ) (codes : List ℕ) (r j : ℕ) → r < rows → j < bytes_for columns
    → get_or (raster rows columns codes) (r * bytes_for columns + j) 0 ≡ get_or (packed black (bytes_for columns) (row_of columns codes r)) j 0
byte_of_row zero columns codes r j h l = absurd (omega arith)
byte_of_row (suc n) columns codes r j h l =
    let w = bytes_for columns in
    let before = raster n columns codes in
    let last = packed black w (row_of columns codes n) in
    let long = length-raster n columns codes in
    let split : raster (suc n) columns codes ≡ before ++ last = let e : suc n ≡ n + 1 = omega arith in ap (λ m. raster m columns codes) e ∙ raster_more n columns codes in
    ap (λ l. get_or l (r * w + j) 0) split
    ∙ ⊎_elim
    (λ e. let place : r * w + j ≡ length before + j = omega (arith, long, ap (λ m. m * w) e) in
    ap (λ m. get_or (before ++ last) m 0) place ∙ get_or-append-add before last j 0 ∙ ap (λ m. get_or (packed black w (row_of columns codes m)) j 0) (sym e))
    (λ ne. get_or_append_left before last 0 (r * w + j) (omega (arith, long, row_fits r n w (omega arith))) ∙ byte_of_row n columns codes r j (omega arith) l)
    (cases_eq r n)

-- the bit of column c among the codes of row r
bit_of_row : (rows columns : ℕ) (codes : List ℕ) (r c : ℕ) → length codes ≡ rows * columns → r < rows
    → bit_at black (row_of columns codes r) c ≡ cond (ltb c columns && black (get_or codes (r * columns + c) 0)) 1 0
bit_of_row rows columns codes r c e h =
    let fits = row_fits r rows columns h in
    let long : length (row_of columns codes r) ≡ columns = length-take-le columns (drop (r * columns) codes) (omega (arith, length-drop (r * columns) codes)) in
    ap (λ n. cond (ltb c n && black (get_or (row_of columns codes r) c 0)) 1 0) long
    ∙ ⊎_elim
    (λ lt. ap (λ x. cond (ltb c columns && black x) 1 0) (get_or-take columns (drop (r * columns) codes) c 0 lt ∙ get_or-drop (r * columns) codes c 0))
    (λ le. ap (λ t. cond (t && black (get_or (row_of columns codes r) c 0)) 1 0) (le-ltb c columns le)
    ∙ sym (ap (λ t. cond (t && black (get_or codes (r * columns + c) 0)) 1 0) (le-ltb c columns le)))
    (cases_lt c columns)

pub square_has_its_bit : (rows columns : ℕ) (codes : List ℕ) (r c : ℕ) → length codes ≡ rows * columns → r < rows → c < 8 * bytes_for columns
    → bit_in (drop (length (header rows columns) + r * bytes_for columns) (pbm rows columns codes)) c ≡ cond (ltb c columns && black (get_or codes (r * columns + c) 0)) 1 0
square_has_its_bit rows columns codes r c e h l =
    let w = bytes_for columns in
    let head = header rows columns in
    let rest = raster rows columns codes in
    let row = row_of columns codes r in
    let from : drop (length head + r * w) (head ++ rest) ≡ drop (r * w) rest =
    sym (drop-drop (r * w) (length head) (head ++ rest)) ∙ ap (drop (r * w)) (drop_at head rest (length head) refl) in
    let byte : get_or (drop (r * w) rest) (c / 8) 0 ≡ get_or (packed black w row) (c / 8) 0 =
    get_or-drop (r * w) rest (c / 8) 0 ∙ byte_of_row rows columns codes r (c / 8) h (omega arith) in
    ap (λ bs. bit_in bs c) from ∙ ap (λ x. x / 2 ^ (7 - c % 8) % 2) byte ∙ bit_kept black w row c l ∙ bit_of_row rows columns codes r c e h
