-- What a cabinet shows of an axis.
use Rattle.std.specs.Prelude.{ℕ, cond, Some, None, Option, nat_lt}
use Rattle.drives.specs.declared.held.Held.{Held}
use Rattle.banks.specs.Lists.{drive_at}
use Rattle.fieldbus.specs.declared.al.Al.{Al}
use Rattle.axes.specs.declared.axis.Axis.{Axis}
use Rattle.axes.specs.Seen.{statusword_of}
use Rattle.cabinet.specs.declared.cabinet.ShownAxis.{ShownAxis}
use Rattle.cabinet.specs.Cabinets.{Standing, axis_count, axis_at, operational}

abbrev pub shown : Al → Axis → Held → ShownAxis
shown al axis held =
    record {
      state = axis.state;
      statusword = statusword_of (operational al) axis held;
      controlword = axis.latest.controlword;
      displayed = axis.displayed;
      wanted = axis.wanted;
      error = axis.error;
      refusal = axis.refusal;
      key_out = axis.key_out;
      held = held;
    }

-- None beyond the axes.
abbrev pub shown_at : Standing → ℕ → Option ShownAxis
shown_at s i =
    cond (nat_lt i (axis_count s.drives))
    (Some (shown s.al (axis_at s.axes i) (drive_at s.drives i).held))
    None
