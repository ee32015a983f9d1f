-- The modes of operation that the drives know, after CiA 402. Mode 0 is "no mode": known, and admitting nothing.
use Rattle.std.specs.Prelude.{ℕ, Bool, false, ℤ, pos, negsuc, ◌==◌}

abbrev pub is_mode : ℕ → ℤ → Bool
is_mode n (pos m) = m == n
is_mode n (negsuc m) = false

abbrev pub no_mode : ℕ
no_mode = 0

abbrev pub position_mode : ℕ
position_mode = 8

abbrev pub velocity_mode : ℕ
velocity_mode = 9
