-- The inverter bits of a hoist, and the troubles that they name.
use Rattle.std.specs.Prelude.{◌≡◌, ℕ, ◌/◌, ◌%◌, ◌^◌, cond, List, [], ◌∷◌, ◌++◌, replicate, ◌==◌}

-- the code that each bit names, from bit 0 on: six of their own, and 0xFF00 for the other ten
abbrev pub inverter_codes : List ℕ
inverter_codes = (0x2310 ∷ 0x3210 ∷ 0x3220 ∷ 0x4310 ∷ 0x7121 ∷ 0x7305 ∷ []) ++ replicate 10 0xFF00

-- the code of the lowest bit that is set, 0 where none is
unfoldable pub lowest_named : List ℕ → ℕ → ℕ
lowest_named [] bits = 0
lowest_named (code ∷ codes) bits = cond (bits % 2 == 1) code (lowest_named codes (bits / 2))

abbrev pub inverter_trouble : ℕ → ℕ
inverter_trouble bits = lowest_named inverter_codes bits

abbrev pub BitSet : ℕ → ℕ → Type 0
BitSet bits k = (bits / 2 ^ k) % 2 ≡ 1

abbrev pub BitClear : ℕ → ℕ → Type 0
BitClear bits k = (bits / 2 ^ k) % 2 ≡ 0
