-- What a drive holds, and what each operation makes of it. An operation changes only what it names.
use Rattle.std.specs.Prelude.{ℕ, Bool, true, false, cond, not, ℤ, pos, Some, None, Ok, Err, Option, Result, ◌==◌}
use Rattle.drives.specs.declared.target.Target.{Target}
use Rattle.drives.specs.declared.target.Cause.{Cause}
use Rattle.drives.specs.declared.target.Cause.TheVariants.{UnknownMode, OwnLimits, NoPower, Trouble}
use Rattle.drives.specs.declared.target.Refusal.{Refusal}
use Rattle.drives.specs.declared.held.Held.{Held}

-- What a make reads out of a field record: trouble code, position, velocity.
abbrev pub Reading : Type 0
Reading = ℕ × ℤ × ℤ

-- Off, carrying nothing, zeros.
abbrev pub at_rest : Held
at_rest = record { powered = false; carried = None; trouble = 0; position = pos 0; velocity = pos 0 }

-- The same with another power and another carried target.
abbrev pub driven : Bool → Option Target → Held → Held
driven on target h =
    record { powered = on; carried = target; trouble = h.trouble; position = h.position; velocity = h.velocity }

abbrev pub energised_held : Held → Held
energised_held h = driven true None h

abbrev pub de_energised_held : Held → Held
de_energised_held h = driven false None h

abbrev pub holding : Held → Held
holding h = driven h.powered None h

-- Trouble, position and velocity are set together.
abbrev pub read_held : Reading → Held → Held
read_held reading h =
    record {
      powered = h.powered;
      carried = h.carried;
      trouble = reading.0;
      position = reading.1;
      velocity = reading.2;
    }

abbrev pub refusal_for : Cause → Option Refusal
refusal_for c = Some (record { cause = c; depth = 0 })

-- The refusal of a drive itself, of a target whose mode is known or not and that its limits admit or not:
-- power, trouble, mode, limits, in this order.
abbrev pub own_refusal : Held → Bool → Bool → Option Refusal
own_refusal h known admitted =
    cond (not h.powered) (refusal_for NoPower)
    (cond (not (h.trouble == 0)) (refusal_for Trouble)
    (cond (not known) (refusal_for UnknownMode)
    (cond (not admitted) (refusal_for OwnLimits)
    None)))

-- The target is carried where there is no refusal; a refusal alters nothing.
abbrev pub taken_held : Target → Option Refusal → Held → Held
taken_held target None h = driven h.powered (Some target) h
taken_held target (Some r) h = h

abbrev pub answered : Option Refusal → Result (Unit {0}) Refusal
answered None = Ok tt
answered (Some r) = Err r
