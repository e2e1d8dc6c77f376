-- The codes of the fixed squares, and the length of a record.
use Rattle.std.proofs.Common.{◌≡◌, ℕ, ◌+◌, List, ◌++◌, length, filter, arith, length-append}
use Rattle.bits.specs.Bits.{fixed, bytes_for}
use Rattle.bits.proofs.Binary.{length-packed}
use Rattle.model.specs.Records.{size_bytes, bit_map, record_of}

pub length_record : (rows columns : ℕ) (codes : List ℕ) → length (record_of rows columns codes) ≡ 4 + bytes_for (length codes) + length (filter fixed codes)
length_record rows columns codes =
    omega (arith, length-append (size_bytes rows columns) (bit_map codes ++ filter fixed codes), length-append (bit_map codes) (filter fixed codes), length-packed fixed (bytes_for (length codes)) codes)
