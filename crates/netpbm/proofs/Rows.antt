-- The raster of a PBM, row by row, and its length.
use Rattle.std.proofs.Common.{◌≡◌, ℕ, zero, suc, ◌+◌, ◌*◌, ◌<◌, ◌≤◌, List, [], ◌∷◌, ◌++◌, length, take, drop, sym, ap, ◌∙◌, add-mul, arith, length-append, length-drop}
use borrow.Rule.Slice.PartMut.{put_mid}
use Rattle.std.specs.List.{range_with_len, flat_map}
use Rattle.std.proofs.lemmas.List.{map-id, flat_map_more, length-take-le}
use Rattle.std.proofs.lemmas.List.FromFn.{map-range_with_len_more}
use Rattle.std.proofs.lemmas.Nat.{mul-le}
use Rattle.bits.specs.Bits.{packed, bytes_for, black}
use Rattle.bits.proofs.Binary.{length-packed}
use Rattle.netpbm.specs.Pbm.{header, raster, row_of, pbm}
use Rattle.netpbm.proofs.Parts.{front_part}

counting_more : (n : ℕ) → range_with_len 0 (n + 1) ≡ range_with_len 0 n ++ n ∷ []
counting_more n = sym (map-id _) ∙ map-range_with_len_more (λ (x : ℕ). x) 0 n n (omega arith) ∙ ap (λ l. l ++ n ∷ []) (map-id _)

pub raster_more : (r columns : ℕ) (codes : List ℕ) → raster (r + 1) columns codes ≡ raster r columns codes ++ packed black (bytes_for columns) (row_of columns codes r)
raster_more r columns codes =
    let f : ℕ → List ℕ = λ r. packed black (bytes_for columns) (row_of columns codes r) in
    ap (flat_map f) (counting_more r) ∙ sym (flat_map_more f [] (range_with_len 0 r) r)

-- row r of w places ends within the rows
pub row_fits : (r rows w : ℕ) → r < rows → r * w + w ≤ rows * w
row_fits r rows w h = omega (arith, mul-le (r + 1) w rows w (omega arith) (omega arith), add-mul r 1 w)

pub length-raster : (rows columns : ℕ) (codes : List ℕ) → length (raster rows columns codes) ≡ rows * bytes_for columns
length-raster zero columns codes = omega arith
length-raster (suc r) columns codes =
    let e : suc r ≡ r + 1 = omega arith in
    ap (λ n. length (raster n columns codes)) e ∙ ap length (raster_more r columns codes) ∙ length-append (raster r columns codes) _
    ∙ omega (arith, length-raster r columns codes, length-packed black (bytes_for columns) (row_of columns codes r), add-mul r 1 (bytes_for columns), ap (λ n. n * bytes_for columns) e)

pub length-pbm : (rows columns : ℕ) (codes : List ℕ) → length (pbm rows columns codes) ≡ length (header rows columns) + rows * bytes_for columns
length-pbm rows columns codes =
    length-append (header rows columns) (raster rows columns codes) ∙ ap (λ n. length (header rows columns) + n) (length-raster rows columns codes)

-- one row more: it is packed into the w bytes behind the rows before it
pub row_written : (out row codes : List ℕ) (r rows columns w j k : ℕ) → r < rows → w ≡ bytes_for columns → length out ≡ rows * w → j ≡ w → k ≡ columns
    → take (r * w) out ≡ raster r columns codes
    → row ≡ packed black (length (take j (drop (r * w) out))) (take k (drop (r * columns) codes))
    → take ((r + 1) * w) (put_mid (r * w) j out row) ≡ raster (r + 1) columns codes
row_written out row codes r rows columns w j k h e long ej ek before is =
    let fits = row_fits r rows w h in
    let room : length (take j (drop (r * w) out)) ≡ bytes_for columns =
    length-take-le j (drop (r * w) out) (omega (arith, length-drop (r * w) out)) ∙ ej ∙ e in
    let same : row ≡ packed black (bytes_for columns) (row_of columns codes r) =
    is ∙ ap (λ n. packed black n (take k (drop (r * columns) codes))) room ∙ ap (λ n. packed black (bytes_for columns) (take n (drop (r * columns) codes))) ek in
    front_part out (raster r columns codes) row (r * w) j ((r + 1) * w) (omega arith) before
    (omega (arith, add-mul r 1 w, ap length same, length-packed black (bytes_for columns) (row_of columns codes r)))
    ∙ ap (λ l. raster r columns codes ++ l) same ∙ sym (raster_more r columns codes)
