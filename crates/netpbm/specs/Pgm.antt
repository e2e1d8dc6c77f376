-- A drawing read from a plain PGM: columns, rows, the greatest sample and the samples are the numbers 0, 1, 2, 3, .. that follow P2.
use Rattle.std.specs.Prelude.{◌≡◌, ℕ, zero, suc, ◌+◌, ◌*◌, Bool, cond, ◌&&◌, List, ◌++◌, map, drop, is_some, Some, None, Option, ◌==◌, nat_le, slice_index}
use Rattle.std.specs.List.{range_with_len}
use Rattle.refusal.specs.Numbers.{number_of}
use Rattle.grid.specs.Limits.{within}
use Rattle.netpbm.specs.declared.fault.Fault.{Fault}
use Rattle.netpbm.specs.Words.{separator, start, stop, number_at, value_at, after}

-- what a fault tells: the refusal's number, and an offset
pub data Told : Type 0 where
  told : ℕ → ℕ → Told

-- what the code's fault tells
abbrev pub told_by : Fault → Told
told_by f = told (number_of f.refusal) f.offset

-- the earlier of two faults
abbrev pub or_else : Option Told → Option Told → Option Told
or_else (Some f) g = Some f
or_else None g = g

-- a fault unless the test holds
abbrev pub unless : Bool → Told → Option Told
unless t f = cond t None (Some f)

-- P, 2 and a separator
abbrev pub begins : List ℕ → Bool
begins input = slice_index input 0 == 80 && (slice_index input 1 == 50 && separator (slice_index input 2))

-- the three numbers of the head, and how many samples follow
abbrev pub columns_in : List ℕ → ℕ
columns_in input = value_at input (after input 0)

abbrev pub rows_in : List ℕ → ℕ
rows_in input = value_at input (after input 1)

abbrev pub greatest_in : List ℕ → ℕ
greatest_in input = value_at input (after input 2)

abbrev pub squares_in : List ℕ → ℕ
squares_in input = rows_in input * columns_in input

-- 13 for a number that is missing, malformed or above 65,535, at its first byte or at the end
abbrev pub number_fault : List ℕ → ℕ → Option Told
number_fault input at = unless (is_some (number_at input at)) (told 13 (start input at))

-- the first fault before the samples, for a band of so many bytes
abbrev pub head_fault : List ℕ → ℕ → Option Told
head_fault input room =
    or_else (unless (begins input) (told 12 0))
    (or_else (number_fault input (after input 0))
    (or_else (number_fault input (after input 1))
    (or_else (number_fault input (after input 2))
    (or_else (unless (within (rows_in input) (columns_in input)) (told 1 0))
    (or_else (unless (nat_le 1 (greatest_in input) && nat_le (greatest_in input) 255) (told 14 (start input (after input 2))))
    (unless (nat_le (squares_in input) room) (told 6 0)))))))

-- the head is read for a band of so many bytes: its numbers, and the position behind them
abbrev pub HeadRead : List ℕ → ℕ → ℕ → ℕ → ℕ → ℕ → Type 0
HeadRead input room rows columns greatest position =
    (head_fault input room ≡ None) × (rows ≡ rows_in input) × (columns ≡ columns_in input) × (greatest ≡ greatest_in input) × (position ≡ after input 3)

-- the fault of a sample: that of its number, or 14 above the greatest
abbrev pub sample_fault : List ℕ → ℕ → ℕ → Option Told
sample_fault input greatest at = or_else (number_fault input at) (unless (nat_le (value_at input at) greatest) (told 14 (start input at)))

-- a sample is read from a position on: its value, and the position behind it
abbrev pub SampleRead : List ℕ → ℕ → ℕ → ℕ → ℕ → Type 0
SampleRead input greatest at value position = (sample_fault input greatest at ≡ None) × (value ≡ value_at input at) × (position ≡ stop input at)

-- the first fault among n samples, and how many samples stand before it
unfoldable pub first_fault : List ℕ → ℕ → Option Told
first_fault input zero = None
first_fault input (suc n) = or_else (first_fault input n) (sample_fault input (greatest_in input) (after input (3 + n)))

unfoldable pub sound : List ℕ → ℕ → ℕ
sound input zero = 0
sound input (suc n) = cond (is_some (first_fault input (suc n))) (sound input n) (suc n)

-- the first fault of all, and how many tones are read before it
abbrev pub read_fault : List ℕ → ℕ → Option Told
read_fault input room = or_else (head_fault input room) (first_fault input (squares_in input))

abbrev pub tones_read : List ℕ → ℕ → ℕ
tones_read input room = cond (is_some (head_fault input room)) 0 (sound input (squares_in input))

-- the whole drawing is read into a band of so many bytes: its size, and the offset behind its last sample
abbrev pub DrawingRead : List ℕ → ℕ → ℕ → ℕ → ℕ → Type 0
DrawingRead input room rows columns end =
    (read_fault input room ≡ None) × (rows ≡ rows_in input) × (columns ≡ columns_in input) × (end ≡ after input (3 + squares_in input))

-- a sample is taken as the tone as it stands
abbrev pub tone_of : ℕ → ℕ
tone_of sample = sample

-- the tone of sample i
abbrev pub tone_in : List ℕ → ℕ → ℕ
tone_in input i = tone_of (value_at input (after input (3 + i)))

-- a band with its first n tones read, and behind them what it held
abbrev pub filled : List ℕ → ℕ → List ℕ → List ℕ
filled input n old = map (tone_in input) (range_with_len 0 n) ++ drop n old
