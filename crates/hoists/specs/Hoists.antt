-- The hoist. It has a lowest and a highest position and a greatest speed either way.
use Rattle.std.specs.Prelude.{ℕ, Bool, cond, ◌&&◌, ◌||◌, ℤ, pos, neg_ℤ}
use Rattle.drives.specs.declared.target.Target.{Target}
use Rattle.drives.specs.declared.held.Held.{Held}
use Rattle.drives.specs.Meaning.{Make, own_make, DriveMeaning}
use Rattle.drives.specs.Modes.{is_mode, no_mode, position_mode, velocity_mode}
use Rattle.drives.specs.Numbers.{word_at, long_at, within}
use Rattle.hoists.specs.Inverters.{inverter_trouble}

abbrev pub hoist_knows : ℤ → Bool
hoist_knows mode = is_mode no_mode mode || (is_mode position_mode mode || is_mode velocity_mode mode)

-- Positions from lowest to highest, velocities from minus to plus the greatest speed.
abbrev pub hoist_admits : ℤ → ℤ → ℕ → Target → Bool
hoist_admits lowest highest speed target =
    cond (is_mode position_mode target.mode)
    (within lowest highest target.value)
    (is_mode velocity_mode target.mode && within (neg_ℤ (pos speed)) (pos speed) target.value)

-- Position in bytes 0 to 3, velocity in 4 to 7, inverter bits in 8 and 9.
abbrev pub hoist_make : ℤ → ℤ → ℕ → Make
hoist_make lowest highest speed =
    own_make hoist_knows (λ position target. hoist_admits lowest highest speed target)
    (λ h bytes. (inverter_trouble (word_at bytes 8), long_at bytes 0, long_at bytes 4))

abbrev pub hoist_meaning : ℤ → ℤ → ℕ → Held → DriveMeaning
hoist_meaning lowest highest speed h = record { held = h; make = hoist_make lowest highest speed }
