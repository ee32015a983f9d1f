-- Windows. A window has a low and a high position over any drive, and is itself a drive.
use Rattle.std.specs.Prelude.{Bool, cond, ◌&&◌, ◌||◌, ℤ, pos, Option, int_le, int_lt}
use Rattle.std.specs.Option.{option_map}
use Rattle.drives.specs.declared.target.Target.{Target}
use Rattle.drives.specs.declared.target.Cause.TheVariants.{Window}
use Rattle.drives.specs.declared.target.Refusal.{Refusal}
use Rattle.windows.specs.declared.window.Limits.{Limits}
use Rattle.drives.specs.Refusals.{deepened}
use Rattle.drives.specs.Holdings.{refusal_for}
use Rattle.drives.specs.Meaning.{Make, DriveMeaning}
use Rattle.drives.specs.Modes.{is_mode, position_mode, velocity_mode}
use Rattle.windows.specs.Guards.{guarded_make, guarded}

-- What the limits keep out at a held position: positions outside low to high, a positive velocity at high or above,
-- a negative one at low or below. Every other mode, and velocity 0, passes.
abbrev pub keeps_out : Limits → ℤ → Target → Bool
keeps_out limits position target =
    cond (is_mode position_mode target.mode)
    (int_lt target.value limits.low || int_lt limits.high target.value)
    (is_mode velocity_mode target.mode
    && ((int_lt (pos 0) target.value && int_le limits.high position)
    || (int_lt target.value (pos 0) && int_le position limits.low)))

-- The refusal with the limits above: theirs at depth 0, else the one from below, a window deeper.
abbrev pub refusal_above : Limits → ℤ → Target → Option Refusal → Option Refusal
refusal_above limits position target below =
    cond (keeps_out limits position target) (refusal_for Window) (option_map deepened below)

abbrev pub window_make : Limits → Make → Make
window_make limits below = guarded_make (keeps_out limits) (refusal_above limits) below

-- A drive with a window around it. It holds what the drive below holds.
abbrev pub windowed : Limits → DriveMeaning → DriveMeaning
windowed limits below = guarded (keeps_out limits) (refusal_above limits) below
