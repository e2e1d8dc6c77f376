-- Pack on the codes of a draft: only the room can be lacking, and 4,109 bytes are always enough.
use Rattle.std.proofs.Common.{◌≡◌, ℕ, ◌*◌, ◌<◌, ◌≤◌, List, [], ◌∷◌, map, length, decimal, refl, ◌∙◌, ⊎_elim, arith}
use Rattle.std.specs.List.{range_with_len}
use Rattle.std.proofs.lemmas.Nat.{mul-le}
use Rattle.std.proofs.lemmas.Fmt.{length-decimal-le}
use Rattle.std.proofs.lemmas.Bool.{cases_lt, cond-true, le-leb}
use Rattle.tone.specs.declared.grey.Grey.{Grey}
use Rattle.refusal.specs.Numbers.{number_of}
use Rattle.refusal.specs.declared.refusal.Refusal.{Refusal}
use Rattle.refusal.specs.declared.refusal.Refusal.TheVariants.{SizeOutsideLimits, BandLength, OutsideDrawing, SquareFixed, LowerNeighbourOpen, OutputTooShort, RecordMalformed, LowerNeighbourMissing, WrongCode, SquareOpen, CodeAboveOne, NotPlainPgm, NotANumber, SampleOutsideRange, OutsideLimits, TouchingEqualRanks, PaletteLength, TooManyCodes}
use Rattle.grid.specs.Limits.{Within}
use Rattle.bits.specs.Bits.{bytes_for}
use Rattle.diffusion.specs.Draft.{code}
use Rattle.netpbm.specs.Pbm.{pbm, codes_refusal, pack_refusal}
use Rattle.netpbm.proofs.HeaderLength.{length-header}
use Rattle.netpbm.proofs.Refusing.{refused_by_codes}
use Rattle.netpbm.proofs.Rows.{length-pbm}
use Rattle.drafting.specs.Drafts.{knuth_setting, codes_of}
use Rattle.drafting.proofs.DraftCodes.{code_low, length-codes}

-- no refusal has the number 0
pub numbered : (e : Refusal) → 1 ≤ number_of e
numbered SizeOutsideLimits = omega arith
numbered BandLength = omega arith
numbered OutsideDrawing = omega arith
numbered SquareFixed = omega arith
numbered LowerNeighbourOpen = omega arith
numbered OutputTooShort = omega arith
numbered RecordMalformed = omega arith
numbered LowerNeighbourMissing = omega arith
numbered WrongCode = omega arith
numbered SquareOpen = omega arith
numbered CodeAboveOne = omega arith
numbered NotPlainPgm = omega arith
numbered NotANumber = omega arith
numbered SampleOutsideRange = omega arith
numbered OutsideLimits = omega arith
numbered TouchingEqualRanks = omega arith
numbered PaletteLength = omega arith
numbered TooManyCodes = omega arith

-- codes of at most 1 are not refused
low_codes : (f : ℕ → ℕ) → ((s : ℕ) → f s ≤ 1) → (ss : List ℕ) → codes_refusal (map f ss) ≡ 0
low_codes f low [] = refl
low_codes f low (s ∷ ss) = cond-true _ (codes_refusal (map f ss)) _ (le-leb (f s) 1 (low s)) ∙ low_codes f low ss

-- so Pack refuses a draft only where the output is too short
pub packs_draft : (rows columns : ℕ) (drawing : ℕ → Grey) (room : ℕ) → length (pbm rows columns (codes_of rows columns drawing)) ≤ room
    → pack_refusal rows columns (codes_of rows columns drawing) room ≡ 0
packs_draft rows columns drawing room h =
    refused_by_codes rows columns (codes_of rows columns drawing) room _ (length-codes rows columns drawing) refl h
    ∙ low_codes (code (knuth_setting rows columns drawing)) (code_low rows columns drawing) (range_with_len 0 (rows * columns))

pub too_short : (rows columns : ℕ) (drawing : ℕ → Grey) (room : ℕ) (e : Refusal) → number_of e ≡ pack_refusal rows columns (codes_of rows columns drawing) room
    → room < length (pbm rows columns (codes_of rows columns drawing))
too_short rows columns drawing room e is =
    ⊎_elim (λ h. h) (λ h. absurd (omega (arith, numbered e, is ∙ packs_draft rows columns drawing room h))) (cases_lt room (length (pbm rows columns (codes_of rows columns drawing))))

-- a header has at most 13 bytes, and a row at most a byte for each square
pub short_file : (rows columns : ℕ) (codes : List ℕ) → Within rows columns → rows * columns ≤ 4096 → length (pbm rows columns codes) ≤ 4109
short_file rows columns codes size few =
    let tall : length (decimal rows) ≤ 4 = let low = size.low in length-decimal-le 4 rows (omega arith) (omega arith) (omega arith) in
    let wide : length (decimal columns) ≤ 4 = let narrow = size.narrow in length-decimal-le 4 columns (omega arith) (omega arith) (omega arith) in
    let bytes : bytes_for columns ≤ columns = let wide = size.wide in omega arith in
    let raster : rows * bytes_for columns ≤ rows * columns = mul-le rows (bytes_for columns) rows columns (omega arith) bytes in
    omega (arith, length-pbm rows columns codes, length-header rows columns)
