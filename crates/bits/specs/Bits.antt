-- Bits in bytes, eight to a byte, high bit first, spare bits 0.
use Rattle.std.specs.Prelude.{◌≡◌, ℕ, zero, suc, ◌+◌, ◌-◌, ◌*◌, ◌/◌, ◌%◌, ◌^◌, ◌<◌, Bool, cond, not, ◌&&◌, List, map, length, drop, ◌==◌, nat_lt, slice_index}
use Rattle.std.specs.List.{range_with_len}

-- the codes whose bit stands: black ones in a raster, those of fixed squares in a map
abbrev pub black : ℕ → Bool
black code = code == 0

abbrev pub fixed : ℕ → Bool
fixed code = not (code == 255)

-- the bit of the code at k, and 0 where there is none
abbrev pub bit_at : (ℕ → Bool) → List ℕ → ℕ → ℕ
bit_at marks codes k = cond (nat_lt k (length codes) && marks (slice_index codes k)) 1 0

-- the binary number whose n digits are f 0, f 1, .. from the highest on
unfoldable pub binary : (ℕ → ℕ) → ℕ → ℕ
binary f zero = 0
binary f (suc n) = binary f n * 2 + f n

-- the first eight codes as a byte
abbrev pub byte_of : (ℕ → Bool) → List ℕ → ℕ
byte_of marks codes = binary (bit_at marks codes) 8

-- how many bytes hold n bits
abbrev pub bytes_for : ℕ → ℕ
bytes_for n = (n + 7) / 8

-- n bytes of bits: byte b has those of the codes 8 b, 8 b + 1, .., 8 b + 7
abbrev pub packed : (ℕ → Bool) → ℕ → List ℕ → List ℕ
packed marks n codes = map (λ b. byte_of marks (drop (8 * b) codes)) (range_with_len 0 n)

-- bit k of bytes, read by division: bit 0 is the highest of the first byte
abbrev pub bit_in : List ℕ → ℕ → ℕ
bit_in bytes k = slice_index bytes (k / 8) / 2 ^ (7 - k % 8) % 2

-- bit k of packed codes is that of the code at k, and 0 behind the codes
abbrev pub EveryBitIsKept : Type 0
EveryBitIsKept = (marks : ℕ → Bool) (n : ℕ) (codes : List ℕ) (k : ℕ) → k < 8 * n → bit_in (packed marks n codes) k ≡ bit_at marks codes k
