-- Every square in the file of a draft.
use Rattle.std.proofs.Common.{◌≡◌, ℕ, ◌+◌, ◌*◌, ◌<◌, cond, ◌&&◌, List, map, length, get_or, drop, ap, ◌∙◌, arith}
use Rattle.std.specs.List.{range_with_len}
use Rattle.std.proofs.lemmas.List.FromFn.{length-map-range_with_len, get_or-map-range_with_len}
use Rattle.std.proofs.lemmas.Bool.{lt-ltb}
use Rattle.bits.specs.Bits.{black, bytes_for, bit_in}
use Rattle.diffusion.specs.Draft.{code}
use Rattle.netpbm.specs.Pbm.{header, pbm}
use Rattle.netpbm.specs.Pgm.{rows_in, columns_in}
use Rattle.netpbm.proofs.Rows.{row_fits}
use Rattle.netpbm.proofs.Squares.{square_has_its_bit}
use Rattle.drafting.specs.Drafts.{setting_in, draft_file}

pub square_is_drafted : (input : List ℕ) (r c : ℕ) → r < rows_in input → c < columns_in input
    → bit_in (drop (length (header (rows_in input) (columns_in input)) + r * bytes_for (columns_in input)) (draft_file input)) c
    ≡ cond (black (code (setting_in input) (r * columns_in input + c))) 1 0
square_is_drafted input r c h l = go (rows_in input) (columns_in input) (code (setting_in input)) h l
  where
    go : (rows columns : ℕ) (f : ℕ → ℕ) → r < rows → c < columns
        → bit_in (drop (length (header rows columns) + r * bytes_for columns) (pbm rows columns (map f (range_with_len 0 (rows * columns))))) c ≡ cond (black (f (r * columns + c))) 1 0
    go rows columns f h l =
        let n = rows * columns in
        let codes = map f (range_with_len 0 n) in
        let place = r * columns + c in
        let inside : place < n = omega (arith, row_fits r rows columns h) in
        square_has_its_bit rows columns codes r c (length-map-range_with_len f 0 n) h (omega arith)
        ∙ ap (λ t. cond (t && black (get_or codes place 0)) 1 0) (lt-ltb c columns l)
        ∙ ap (λ x. cond (black x) 1 0) (get_or-map-range_with_len f 0 n place place 0 inside (omega arith))
