-- What is seen of an axis: the statusword and the row of the return image.
use Rattle.std.specs.Prelude.{ℕ, Bool, not, ℤ, is_some, ◌==◌}
use Rattle.std.specs.Int.{w8}
use Rattle.std.proofs.Common.{of_z}
use Rattle.drives.specs.declared.held.Held.{Held}
use Rattle.profile.specs.declared.image.Inputs.{Inputs}
use Rattle.profile.specs.declared.statusword.Flags.{Flags}
use Rattle.profile.specs.Status.{status_of}
use Rattle.axes.specs.declared.axis.Axis.{Axis}

-- Two modes are the same byte.
abbrev pub same_mode : ℤ → ℤ → Bool
same_mode one other = of_z w8 one == of_z w8 other

-- The flags of an axis over what its drive holds, with AL in Operational or not.
abbrev pub flags_of : Bool → Axis → Held → Flags
flags_of operational axis held =
    record {
      powered = held.powered;
      mode_pending = not (same_mode axis.wanted axis.displayed);
      operational = operational;
      refused = is_some axis.refusal;
      carrying = is_some held.carried;
      key_out = axis.key_out;
    }

abbrev pub statusword_of : Bool → Axis → Held → ℕ
statusword_of operational axis held = status_of axis.state (flags_of operational axis held)

abbrev pub inputs_of : Bool → Axis → Held → Inputs
inputs_of operational axis held =
    record {
      statusword = statusword_of operational axis held;
      position = held.position;
      velocity = held.velocity;
      displayed = axis.displayed;
      error = axis.error;
    }
