-- The draft of a drawing that is held in a plain PGM, as a raw PBM; and when there is none.
use Rattle.std.specs.Prelude.{◌≡◌, ℕ, ◌+◌, ◌*◌, ◌<◌, ◌≤◌, cond, List, ◌++◌, map, length, drop, pos, IfErr, Some, None, Result, MatchResult, ◌≢◌, slice_index_or}
use Rattle.std.specs.List.{range_with_len}
use Rattle.tone.specs.Grey.{wrap, no_grey, grey_algebra}
use Rattle.tone.specs.declared.grey.Grey.{Grey}
use Rattle.plan.specs.Knuth.{knuth_plan}
use Rattle.quantiser.specs.Threshold.{by_threshold}
use Rattle.bits.specs.Bits.{black, bytes_for, bit_in}
use Rattle.diffusion.specs.Draft.{Setting, code}
use Rattle.diffusion.specs.Drawings.{setting_of}
use Rattle.netpbm.specs.Pbm.{header, pbm}
use Rattle.netpbm.specs.Pgm.{told_by, rows_in, columns_in, squares_in, tone_in, read_fault}
use Rattle.drafting.specs.declared.fault.DraftFault.{DraftFault}
use Rattle.drafting.specs.declared.fault.DraftFault.TheVariants.{InputTooLong, Unread, OutputTooShort}

-- a byte as a grey tone
abbrev pub grey : ℕ → Grey
grey byte = wrap (pos byte)

-- a drawing under Knuth's plan and the threshold 128
abbrev pub knuth_setting : ℕ → ℕ → (ℕ → Grey) → Setting Grey
knuth_setting rows columns drawing = setting_of grey_algebra rows columns knuth_plan (by_threshold (record { least = pos 128 })) drawing

-- the code of every square, in reading order
abbrev pub codes_of : ℕ → ℕ → (ℕ → Grey) → List ℕ
codes_of rows columns drawing = map (code (knuth_setting rows columns drawing)) (range_with_len 0 (rows * columns))

-- the same for a list of tones
abbrev pub finished : ℕ → ℕ → List Grey → List ℕ
finished rows columns tones = codes_of rows columns (λ s. slice_index_or tones s no_grey)

-- the drawing that a PGM holds, its tones the samples as they stand
abbrev pub setting_in : List ℕ → Setting Grey
setting_in input = knuth_setting (rows_in input) (columns_in input) (λ s. grey (tone_in input s))

-- the PBM of its draft
abbrev pub draft_file : List ℕ → List ℕ
draft_file input = pbm (rows_in input) (columns_in input) (map (code (setting_in input)) (range_with_len 0 (squares_in input)))

-- the input is short enough, and its drawing of at most 4,096 squares can be read
pub record Readable (input : List ℕ) : Type 0 where
  pub short : length input ≤ 65536
  pub sound : read_fault input 4096 ≡ None

-- which fault there is, for an output of so many bytes
abbrev pub Faulty : List ℕ → ℕ → DraftFault → Type 0
Faulty input room InputTooLong = 65536 < length input
Faulty input room (Unread fault) = (length input ≤ 65536) × (read_fault input 4096 ≡ Some (told_by fault))
Faulty input room OutputTooShort = Readable input × (room < length (draft_file input))

-- what is answered, and what becomes of the output that was old: the draft and what lay behind, or all as it was
abbrev pub Drafts : List ℕ → List ℕ → Result ℕ DraftFault → List ℕ → Type 0
Drafts input old r new =
    MatchResult r
    (λ n. Readable input × (n ≡ length (draft_file input)) × (new ≡ draft_file input ++ drop n old))
    (λ fault. Faulty input (length old) fault × (new ≡ old))

-- no output was too short
abbrev pub NotTooShort : Result ℕ DraftFault → Type 0
NotTooShort r = IfErr r (λ fault. fault ≢ OutputTooShort)

-- behind the header each row begins with a byte of its own, whose bit c is 1 where the definition's code of the square in column c is 0
abbrev pub EverySquareIsDrafted : Type 0
EverySquareIsDrafted =
    (input : List ℕ) (r c : ℕ) → r < rows_in input → c < columns_in input
    → bit_in (drop (length (header (rows_in input) (columns_in input)) + r * bytes_for (columns_in input)) (draft_file input)) c
    ≡ cond (black (code (setting_in input) (r * columns_in input + c))) 1 0
