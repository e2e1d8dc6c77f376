-- The record of a halted job: what is written, and why one is refused.
use Rattle.std.specs.Prelude.{ℕ, zero, suc, ◌+◌, ◌-◌, ◌*◌, ◌/◌, ◌%◌, ◌^◌, Bool, true, cond, not, ◌&&◌, ◌||◌, List, [], ◌∷◌, ◌++◌, length, filter, ◌==◌, nat_lt, slice_index}
use Rattle.bits.specs.Bits.{fixed, bytes_for, packed}
use Rattle.diffusion.specs.Draft.{Setting, code}
use Rattle.diffusion.specs.Neighbourhoods.{Neighbourhood}
use Rattle.diffusion.specs.Sets.{ready_by}
use Rattle.model.specs.Jobs.{Job, squares}

-- rows and columns, two bytes each, high byte first
abbrev pub size_bytes : ℕ → ℕ → List ℕ
size_bytes rows columns = rows / 256 ∷ rows % 256 ∷ columns / 256 ∷ columns % 256 ∷ []

-- a bit for each square, standing when fixed
abbrev pub bit_map : List ℕ → List ℕ
bit_map codes = packed fixed (bytes_for (length codes)) codes

-- the size, the map, and the codes of the fixed squares
abbrev pub record_of : ℕ → ℕ → List ℕ → List ℕ
record_of rows columns codes = size_bytes rows columns ++ (bit_map codes ++ filter fixed codes)

-- whether a place's bit stands in a record
abbrev pub stands : List ℕ → ℕ → Bool
stands rec s = slice_index rec (4 + s / 8) / 2 ^ (7 - s % 8) % 2 == 1

-- how many of the places below n stand
unfoldable pub stand_below : List ℕ → ℕ → ℕ
stand_below rec zero = 0
stand_below rec (suc n) = stand_below rec n + cond (stands rec n) 1 0

-- the code of a standing place, in a record of n squares
abbrev pub code_in : ℕ → List ℕ → ℕ → ℕ
code_in n rec s = slice_index rec (4 + bytes_for n + stand_below rec s)

-- p holds of every number below n
unfoldable pub all_below : (ℕ → Bool) → ℕ → Bool
all_below p zero = true
all_below p (suc n) = p n && all_below p n

abbrev pub right_size : ℕ → ℕ → List ℕ → Bool
right_size rows columns rec =
    (slice_index rec 0 == rows / 256) && (slice_index rec 1 == rows % 256 && (slice_index rec 2 == columns / 256 && slice_index rec 3 == columns % 256))

-- no bit behind the last square stands
abbrev pub spare_clear : ℕ → List ℕ → Bool
spare_clear n rec = all_below (λ k. nat_lt k n || not (stands rec k)) (8 * bytes_for n)

abbrev pub right_length : ℕ → List ℕ → Bool
right_length n rec = length rec == 4 + bytes_for n + stand_below rec n

abbrev pub well_formed : {T : Type 0} → Job T → List ℕ → Bool
well_formed p rec = right_size p.rows p.columns rec && (spare_clear (squares p) rec && right_length (squares p) rec)

-- each lower neighbour of a standing square stands
abbrev pub closed_by : Neighbourhood → (ℕ → Bool) → Bool
closed_by squares F = all_below (λ s. not (F s) || ready_by squares F s 8) squares.count

-- each code is the definition's
abbrev pub right_codes : {T : Type 0} → Setting T → List ℕ → Bool
right_codes j rec = all_below (λ s. not (stands rec s) || code_in j.squares.count rec s == code j s) j.squares.count

-- 0, or why a record is refused
unfoldable pub record_refusal : {T : Type 0} → Job T → List ℕ → ℕ
record_refusal p rec = cond (well_formed p rec) (cond (closed_by p.setting.squares (stands rec)) (cond (right_codes p.setting rec) 0 9) 8) 7
