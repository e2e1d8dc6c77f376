-- The refusals of Pack, from the tests that it makes.
use Rattle.std.proofs.Common.{◌≡◌, ℕ, ◌+◌, ◌*◌, ◌<◌, ◌≤◌, cond, ltb, List, length, sym, ap, ◌∙◌, arith}
use Rattle.std.proofs.lemmas.Bool.{cond-true, cond-false, eq-eqb, le-ltb, lt-ltb}
use Rattle.bits.specs.Bits.{bytes_for}
use Rattle.netpbm.specs.Pbm.{header, pbm, codes_refusal, pack_refusal}
use Rattle.netpbm.proofs.Rows.{length-pbm}

-- the length that Pack computes is the PBM's
pub total_is : (rows columns : ℕ) (codes : List ℕ) (start w : ℕ) → start ≡ length (header rows columns) → w ≡ bytes_for columns → start + rows * w ≡ length (pbm rows columns codes)
total_is rows columns codes start w es ew =
    ap (λ n. n + rows * w) es ∙ ap (λ n. length (header rows columns) + rows * n) ew ∙ sym (length-pbm rows columns codes)

counted : (rows columns : ℕ) (codes : List ℕ) (room : ℕ) → length codes ≡ rows * columns
    → pack_refusal rows columns codes room ≡ cond (ltb room (length (pbm rows columns codes))) 6 (codes_refusal codes)
counted rows columns codes room e = cond-true _ _ 2 (eq-eqb (length codes) (rows * columns) e)

pub refused_short : (rows columns : ℕ) (codes : List ℕ) (room total : ℕ) → length codes ≡ rows * columns → total ≡ length (pbm rows columns codes) → room < total
    → pack_refusal rows columns codes room ≡ 6
refused_short rows columns codes room total e et h =
    counted rows columns codes room e ∙ cond-true _ 6 (codes_refusal codes) (lt-ltb room (length (pbm rows columns codes)) (omega arith))

pub refused_by_codes : (rows columns : ℕ) (codes : List ℕ) (room total : ℕ) → length codes ≡ rows * columns → total ≡ length (pbm rows columns codes) → total ≤ room
    → pack_refusal rows columns codes room ≡ codes_refusal codes
refused_by_codes rows columns codes room total e et h =
    counted rows columns codes room e ∙ cond-false _ 6 (codes_refusal codes) (le-ltb room (length (pbm rows columns codes)) (omega arith))
