-- The statusword, and an axis's row of the return image.
use Rattle.std.specs.Prelude.{ℕ, ◌/◌, ◌%◌, cond, List, [], ◌∷◌, ◌++◌, ℤ}
use Rattle.std.specs.Int.Bits.{bit_or}
use Rattle.std.specs.Int.{w8, w32}
use Rattle.std.proofs.Common.{of_z}
use Rattle.profile.specs.declared.state.State.{State}
use Rattle.profile.specs.declared.statusword.Flags.{Flags}
use Rattle.profile.specs.declared.image.Inputs.{Inputs}
use Rattle.profile.specs.States.{state_pattern}

-- The pattern, and a bit of its own for each flag: 4, 7, 9, 11, 12 and 14.
unfoldable pub status_of : State → Flags → ℕ
status_of state flags =
    bit_or (bit_or (bit_or (bit_or (bit_or (bit_or (state_pattern state)
    (cond flags.powered 0x0010 0))
    (cond flags.mode_pending 0x0080 0))
    (cond flags.operational 0x0200 0))
    (cond flags.refused 0x0800 0))
    (cond flags.carrying 0x1000 0))
    (cond flags.key_out 0x4000 0)

-- an unsigned 16-bit number, lowest byte first
abbrev pub word_bytes : ℕ → List ℕ
word_bytes n = (n % 256) ∷ (n / 256 % 256) ∷ []

-- a signed 32-bit number in two's complement, lowest byte first
abbrev pub long_bytes : ℤ → List ℕ
long_bytes z = let n = of_z w32 z in (n % 256) ∷ (n / 256 % 256) ∷ (n / 65536 % 256) ∷ (n / 16777216 % 256) ∷ []

-- Statusword (2), position (4), velocity (4), displayed mode (1), error (2).
unfoldable pub row_bytes : Inputs → List ℕ
row_bytes inputs =
    word_bytes inputs.statusword ++ (long_bytes inputs.position ++ (long_bytes inputs.velocity
    ++ (of_z w8 inputs.displayed ∷ word_bytes inputs.error)))
