-- What the code keeps of a value, so that a number's text may be of any length.
use Rattle.std.specs.Prelude.{ℕ, min, ℤ, pos}
use Rattle.std.specs.Int.{int_min, int_max}
use Rattle.text.specs.Numerals.{minus}

-- past every range of 32 bits
abbrev pub past : ℕ
past = 4294967296

abbrev pub kept : ℕ → ℕ
kept n = min n past

abbrev pub kept_integer : ℤ → ℤ
kept_integer z = int_max (minus past) (int_min z (pos past))
