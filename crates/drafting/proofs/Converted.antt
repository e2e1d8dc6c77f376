-- From what Read and Pack say to what is said of the whole way.
use Rattle.std.proofs.Common.{◌≡◌, ℕ, Result, Ok, Err, ◌*◌, ◌<◌, ◌≤◌, List, ◌++◌, map, length, get_or, take, drop, ap, ◌∙◌, subst, arith}
use Rattle.std.specs.List.{range_with_len}
use Rattle.std.specs.Result.{result_or}
use Rattle.std.proofs.lemmas.List.FromFn.{length-map-range_with_len}
use Rattle.tone.specs.Grey.{no_grey}
use Rattle.refusal.specs.Numbers.{number_of}
use Rattle.refusal.specs.declared.refusal.Refusal.{Refusal}
use Rattle.grid.specs.Limits.{Within}
use Rattle.netpbm.specs.Pbm.{pbm, pack_refusal, Packs}
use Rattle.netpbm.specs.Pgm.{rows_in, squares_in, tone_in, tones_read, filled, DrawingRead}
use Rattle.drafting.specs.Drafts.{grey, codes_of, finished, draft_file, Readable, Drafts, NotTooShort}
use Rattle.drafting.specs.declared.fault.DraftFault.TheVariants.{OutputTooShort}
use Rattle.drafting.proofs.Packed.{too_short, short_file}
use Rattle.drafting.proofs.Pictures.{room_for_all, band_front, codes_of_tones}

module _ (input band before : List ℕ) (rows columns end k : ℕ) (read : DrawingRead input 4096 rows columns end)
    (is : band ≡ filled input (tones_read input 4096) before) (all : k ≡ rows * columns) where
  squares : rows * columns ≡ squares_in input
  squares = ap (λ r. r * columns) read.1 ∙ ap (λ c. rows_in input * c) read.2

  -- the drawing has few squares
  pub few : rows * columns ≤ 4096
  few = omega (arith, squares, room_for_all input 4096 read.0)

  -- the front of the band is the drawing
  front : take k band ≡ map (tone_in input) (range_with_len 0 (rows * columns))
  front = ap (λ l. take k l) is ∙ band_front input before 4096 k read.0 (all ∙ squares) ∙ ap (λ n. map (tone_in input) (range_with_len 0 n)) all

  pub front_long : length (take k band) ≡ rows * columns
  front_long = ap length front ∙ length-map-range_with_len (tone_in input) 0 (rows * columns)

  -- the file that is packed
  abbrev file : List ℕ
  file = pbm rows columns (finished rows columns (map grey (take k band)))

  same_file : file ≡ draft_file input
  same_file =
      ap (λ t. pbm rows columns (finished rows columns (map grey t))) front
      ∙ ap (pbm rows columns) (codes_of_tones input rows columns)
      ∙ ap (λ r. pbm r columns (codes_of r columns (λ s. grey (tone_in input s)))) read.1
      ∙ ap (λ c. pbm (rows_in input) c (codes_of (rows_in input) c (λ s. grey (tone_in input s)))) read.2

  -- a draft that is written
  written : (old new : List ℕ) (n : ℕ) → length input ≤ 65536 → n ≡ length file → new ≡ file ++ drop n old
      → Readable input × (n ≡ length (draft_file input)) × (new ≡ draft_file input ++ drop n old)
  written old new n short long made = (
    record { short = short; sound = read.0 },
    long ∙ ap length same_file,
    made ∙ ap (λ l. l ++ drop n old) same_file,
  )

  -- a draft that the output has no room for
  unwritten : (room : ℕ) (e : Refusal) → length input ≤ 65536 → number_of e ≡ pack_refusal rows columns (finished rows columns (map grey (take k band))) room
      → Readable input × (room < length (draft_file input))
  unwritten room e short refused = (
    record { short = short; sound = read.0 },
    subst (λ l. room < length l) same_file (too_short rows columns (λ s. get_or (map grey (take k band)) s no_grey) room e refused),
  )

  -- what Pack answers, with each refusal told as an output that is too short
  pub told : (old new : List ℕ) (r : Result ℕ Refusal) → length input ≤ 65536
      → Packs rows columns (finished rows columns (map grey (take k band))) old r new → Drafts input old (result_or r (Err OutputTooShort)) new
  told old new (Ok n) short packed = written old new n short packed.1 packed.2
  told old new (Err e) short packed = (unwritten (length old) e short packed.0, packed.1)

  -- there is room enough in 4,109 bytes
  pub roomy : (old new : List ℕ) (r : Result ℕ Refusal) → Within rows columns
      → Packs rows columns (finished rows columns (map grey (take k band))) old r new → 4109 ≤ length old → NotTooShort (result_or r (Err OutputTooShort))
  roomy old new (Ok n) size packed room = tt
  roomy old new (Err e) size packed room = λ is.
      omega (
        arith,
        too_short rows columns (λ s. get_or (map grey (take k band)) s no_grey) (length old) e packed.0,
        short_file rows columns (finished rows columns (map grey (take k band))) size few,
      )
