-- The palette quantiser: the nearest of a few colours, and how bytes make a palette.
use Rattle.std.specs.Prelude.{◌≡◌, ℕ, ◌+◌, ◌*◌, ◌/◌, ◌%◌, ◌<◌, ◌≤◌, cond, List, length, pos, ◌-ℤ◌, nat_lt, slice_index, slice_index_or, unsigned_abs}
use Rattle.tone.specs.Colour.{colour_of, colour_algebra}
use Rattle.tone.specs.Grey.{wrap}
use Rattle.tone.specs.declared.colour.Colour.{Colour}
use Rattle.tone.specs.declared.grey.Grey.{Grey}
use Rattle.quantiser.specs.Least.{least}
use Rattle.quantiser.specs.Tables.{Tables}
use Rattle.quantiser.specs.declared.palette.Entry.{Entry}
use Rattle.quantiser.specs.declared.palette.Palette.{Palette}

-- the absolute difference of a channel from a byte
abbrev pub channel_distance : Grey → ℕ → ℕ
channel_distance x b = unsigned_abs (x.value -ℤ pos b)

-- the absolute differences of the channels, added
abbrev pub distance : Colour → Entry → ℕ
distance x e = channel_distance x.red e.red + channel_distance x.green e.green + channel_distance x.blue e.blue

abbrev pub black : Entry
black = record { red = 0; green = 0; blue = 0 }

-- the entry of a code
abbrev pub entry_of : Palette → ℕ → Entry
entry_of p k = slice_index_or p.entries k black

-- an entry as a tone
abbrev pub tone_of : Entry → Colour
tone_of e = colour_of (wrap (pos e.red)) (wrap (pos e.green)) (wrap (pos e.blue))

-- the nearest entry is chosen, the lowest code among equals
abbrev pub by_palette : Palette → Tables Colour
by_palette p = record {
  count = p.len;
  choice = λ x. least (λ k. distance x (entry_of p k)) p.len;
  output = λ c. cond (nat_lt c p.len) (tone_of (entry_of p c)) colour_algebra.zero;
}

-- a palette that was never written: one black
pub record Fresh (p : Palette) : Type 0 where
  pub len : p.len ≡ 1
  pub colour : entry_of p 0 ≡ black

-- so many bytes are 1 to 16 colours of three bytes each
pub record Whole (n : ℕ) : Type 0 where
  pub triples : n % 3 ≡ 0
  pub some : 3 ≤ n
  pub few : n ≤ 48

abbrev pub entry_at : List ℕ → ℕ → Entry
entry_at bytes k = record { red = slice_index bytes (3 * k); green = slice_index bytes (3 * k + 1); blue = slice_index bytes (3 * k + 2) }

-- a palette has just the colours that stand in the bytes
pub record Written (bytes : List ℕ) (p : Palette) : Type 0 where
  pub len : p.len ≡ length bytes / 3
  pub colours : (k : ℕ) → k < length bytes / 3 → entry_of p k ≡ entry_at bytes k
