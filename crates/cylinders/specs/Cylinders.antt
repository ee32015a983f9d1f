-- The cylinder. It has k, the micrometres for a microampere of its position sensor.
use Rattle.std.specs.Prelude.{ℕ, ◌*◌, Bool, cond, ◌&&◌, ◌||◌, ℤ, pos, ◌-ℤ◌, ◌*ℤ◌, nat_lt}
use Rattle.drives.specs.declared.target.Target.{Target}
use Rattle.drives.specs.declared.held.Held.{Held}
use Rattle.drives.specs.Meaning.{Make, own_make, DriveMeaning}
use Rattle.drives.specs.Modes.{is_mode, no_mode, position_mode}
use Rattle.drives.specs.Numbers.{word_at, brought_into, within}

-- k as it counts: brought into 1 to 1,000
abbrev pub scale_in_range : ℕ → ℕ
scale_in_range k = brought_into 1 1000 k

abbrev pub cylinder_knows : ℤ → Bool
cylinder_knows mode = is_mode no_mode mode || is_mode position_mode mode

-- Positions from 0 to 16,000 × k.
abbrev pub cylinder_admits : ℕ → Target → Bool
cylinder_admits k target = is_mode position_mode target.mode && within (pos 0) (pos (16000 * k)) target.value

-- A current outside 3,600 to 21,000 microamperes is a trouble of the sensor.
abbrev pub current_trouble : ℕ → ℕ
current_trouble c = cond (nat_lt c 3600 || nat_lt 21000 c) 0x7300 0

-- Micrometres above the 4,000 microamperes that stand for 0, with the current first brought into its range.
abbrev pub current_position : ℕ → ℕ → ℤ
current_position k c = (pos (brought_into 3600 21000 c) -ℤ pos 4000) *ℤ pos k

-- The current in bytes 0 and 1. A cylinder tells no velocity.
abbrev pub cylinder_make : ℕ → Make
cylinder_make k =
    own_make cylinder_knows (λ position target. cylinder_admits k target)
    (λ h bytes. (current_trouble (word_at bytes 0), current_position k (word_at bytes 0), pos 0))

abbrev pub cylinder_meaning : ℕ → Held → DriveMeaning
cylinder_meaning k h = record { held = h; make = cylinder_make k }
