-- Numbers out of a field record, lowest byte first, and numbers brought into a range.
use Rattle.std.specs.Prelude.{ℕ, ◌+◌, ◌*◌, min, max, Bool, ◌&&◌, List, ℤ, int_le, slice_index}
use Rattle.std.specs.Int.{w32}
use Rattle.std.proofs.Common.{to_z}

-- the unsigned 16-bit number at a byte
abbrev pub word_at : List ℕ → ℕ → ℕ
word_at bytes i = slice_index bytes i + slice_index bytes (i + 1) * 256

-- the signed 32-bit number at a byte, in two's complement
abbrev pub long_at : List ℕ → ℕ → ℤ
long_at bytes i =
    to_z w32 (slice_index bytes i + slice_index bytes (i + 1) * 256 + slice_index bytes (i + 2) * 65536 + slice_index bytes (i + 3) * 16777216)

abbrev pub brought_into : ℕ → ℕ → ℕ → ℕ
brought_into low high n = max low (min n high)

abbrev pub within : ℤ → ℤ → ℤ → Bool
within low high z = int_le low z && int_le z high
