-- What a call brings an axis, and what the axis and its drive are afterwards.
use Rattle.std.specs.Prelude.{ℕ, Bool, true, false, cond, not, ◌&&◌, List, ℤ, pos, Some, None, Option, ◌==◌}
use Rattle.drives.specs.declared.target.Refusal.{Refusal}
use Rattle.drives.specs.declared.target.Target.{Target}
use Rattle.drives.specs.Meaning.{DriveMeaning, held_still, sampled, taken, known_by, refused_by}
use Rattle.drives.specs.Modes.{is_mode, position_mode, velocity_mode}
use Rattle.fieldbus.specs.declared.frame.Part.{Part}
use Rattle.fieldbus.specs.declared.layout.Layout.TheVariants.{Full}
use Rattle.fieldbus.specs.Frames.{nothing_carried}
use Rattle.profile.specs.declared.state.State.{State}
use Rattle.profile.specs.declared.state.State.TheVariants.{NotReady, SwitchOnDisabled, Ready, SwitchedOn, OperationEnabled, QuickStopActive, FaultReactionActive, Fault}
use Rattle.profile.specs.Commands.{reset_bit}
use Rattle.axes.specs.declared.axis.Axis.{Axis}
use Rattle.axes.specs.declared.axis.Line.{Line}
use Rattle.axes.specs.declared.axis.Line.TheVariants.{Acts, RunsOut, Quiet}
use Rattle.axes.specs.Moves.{own_move, loss_move, follow_move, entering, is_enabled, is_fault}

-- Not ready, modes, error and layout 0.
abbrev pub axis_at_start : Axis
axis_at_start =
    record {
      state = NotReady;
      wanted = pos 0;
      displayed = pos 0;
      error = 0;
      layout = Full;
      bit7 = false;
      latest = nothing_carried;
      refusal = None;
      key_out = false;
    }

-- The error of an axis that the loss of the line has stopped.
abbrev pub line_loss : ℕ
line_loss = 0x8100

abbrev pub or_else : {A : Type 0} → Option A → Option A → Option A
or_else (Some a) other = Some a
or_else None other = other

abbrev pub landing : State → Option State → State
landing state None = state
landing state (Some next) = next

-- The error after a move: set to its cause as Fault reaction active is entered, cleared as Fault is left by a reset.
abbrev pub error_after : ℕ → State → Option State → ℕ → ℕ
error_after cause from None error = error
error_after cause from (Some NotReady) error = error
error_after cause from (Some SwitchOnDisabled) error = cond (is_fault from) 0 error
error_after cause from (Some Ready) error = error
error_after cause from (Some SwitchedOn) error = error
error_after cause from (Some OperationEnabled) error = error
error_after cause from (Some QuickStopActive) error = error
error_after cause from (Some FaultReactionActive) error = cause
error_after cause from (Some Fault) error = error

-- The same axis in a state and with an error.
abbrev pub in_state : State → ℕ → Axis → Axis
in_state state error axis =
    record {
      state = state;
      wanted = axis.wanted;
      displayed = axis.displayed;
      error = error;
      layout = axis.layout;
      bit7 = axis.bit7;
      latest = axis.latest;
      refusal = axis.refusal;
      key_out = axis.key_out;
    }

-- The axis after a move.
abbrev pub moved : ℕ → Option State → Axis → Axis
moved cause move axis = in_state (landing axis.state move) (error_after cause axis.state move axis.error) axis

-- The drive after a move of its axis.
abbrev pub after_move : State → Option State → DriveMeaning → DriveMeaning
after_move from None drive = drive
after_move from (Some next) drive = entering from next drive

abbrev pub or_kept : Option ℤ → ℤ → ℤ
or_kept None kept = kept
or_kept (Some mode) kept = mode

-- The mode displayed once a part is acted on: the wanted one, where the drive knows it and operation was not enabled.
abbrev pub displayed_by : Part → Bool → DriveMeaning → Axis → ℤ
displayed_by part was_enabled drive axis =
    let wanted = or_kept part.mode axis.wanted in
    cond (not was_enabled && known_by wanted drive) wanted axis.displayed

-- The axis once it has taken note of a part that is acted on. A refusal of the frame before is forgotten.
abbrev pub noted : Part → Bool → DriveMeaning → Axis → Axis
noted part was_enabled drive axis =
    record {
      state = axis.state;
      wanted = or_kept part.mode axis.wanted;
      displayed = displayed_by part was_enabled drive axis;
      error = axis.error;
      layout = axis.layout;
      bit7 = reset_bit part.controlword;
      latest = part;
      refusal = None;
      key_out = axis.key_out;
    }

abbrev pub with_refusal : Option Refusal → Axis → Axis
with_refusal refusal axis =
    record {
      state = axis.state;
      wanted = axis.wanted;
      displayed = axis.displayed;
      error = axis.error;
      layout = axis.layout;
      bit7 = axis.bit7;
      latest = axis.latest;
      refusal = refusal;
      key_out = axis.key_out;
    }

abbrev pub in_mode : ℤ → Option ℤ → Option Target
in_mode mode None = None
in_mode mode (Some value) = Some (record { mode = mode; value = value })

-- The target that a part names: in position mode its position, in velocity mode its velocity, where it carries them.
abbrev pub named_target : Part → ℤ → Option Target
named_target part displayed =
    in_mode displayed
    (cond (is_mode position_mode displayed) part.position
    (cond (is_mode velocity_mode displayed) part.velocity
    None))

abbrev pub refusal_of : Option Target → DriveMeaning → Option Refusal
refusal_of None drive = None
refusal_of (Some target) drive = refused_by target drive

abbrev pub taken_or_held : Target → Option Refusal → DriveMeaning → DriveMeaning
taken_or_held target None drive = taken target drive
taken_or_held target (Some refusal) drive = held_still drive

-- A drive that is given what was named: it carries the target, or holds where there is none or it refuses.
abbrev pub given : Option Target → DriveMeaning → DriveMeaning
given None drive = held_still drive
given (Some target) drive = taken_or_held target (refused_by target drive) drive

-- A part is acted on: in Operation enabled the drive is given the target that it names.
unfoldable pub acted : Part → Bool → DriveMeaning → Axis → Axis
acted part was_enabled drive axis =
    with_refusal
    (cond (is_enabled axis.state) (refusal_of (named_target part (displayed_by part was_enabled drive axis)) drive) None)
    (noted part was_enabled drive axis)

unfoldable pub acted_drive : Part → Bool → Axis → DriveMeaning → DriveMeaning
acted_drive part was_enabled axis drive =
    cond (is_enabled axis.state) (given (named_target part (displayed_by part was_enabled drive axis)) drive) drive

-- The move that the line brings.
abbrev pub line_move : Line → ℕ → Axis → Option State
line_move (Acts part) trouble axis = follow_move part.controlword trouble axis
line_move RunsOut trouble axis = loss_move axis.state
line_move Quiet trouble axis = None

-- The one move of a cycle: the axis's own, or else the one that the line brings.
unfoldable pub cycle_move : Line → ℕ → Axis → Option State
cycle_move line trouble axis = or_else (own_move trouble axis.state) (line_move line trouble axis)

-- Why an axis is stopped in a cycle: its trouble, or the loss of the line where there is none.
abbrev pub stop_cause : ℕ → ℕ
stop_cause trouble = cond (trouble == 0) line_loss trouble

-- After the move, the part that is acted on, if any.
abbrev pub heeded : Line → Bool → DriveMeaning → Axis → Axis
heeded (Acts part) was_enabled drive axis = acted part was_enabled drive axis
heeded RunsOut was_enabled drive axis = axis
heeded Quiet was_enabled drive axis = axis

abbrev pub heeded_drive : Line → Bool → Axis → DriveMeaning → DriveMeaning
heeded_drive (Acts part) was_enabled axis drive = acted_drive part was_enabled axis drive
heeded_drive RunsOut was_enabled axis drive = drive
heeded_drive Quiet was_enabled axis drive = drive

-- A cycle of an axis whose drive has sampled.
abbrev pub cycled_axis : Line → Axis → DriveMeaning → Axis
cycled_axis line axis drive =
    let trouble = drive.held.trouble in
    let move = cycle_move line trouble axis in
    heeded line (is_enabled axis.state) (after_move axis.state move drive) (moved (stop_cause trouble) move axis)

abbrev pub cycled_drive : Line → Axis → DriveMeaning → DriveMeaning
cycled_drive line axis drive =
    let trouble = drive.held.trouble in
    let move = cycle_move line trouble axis in
    heeded_drive line (is_enabled axis.state) (moved (stop_cause trouble) move axis) (after_move axis.state move drive)

-- A stay in Operational begins: bit 7 counts as set, so that one held since before is no edge.
abbrev pub stay_begun : Axis → Axis
stay_begun axis =
    record {
      state = axis.state;
      wanted = axis.wanted;
      displayed = axis.displayed;
      error = axis.error;
      layout = axis.layout;
      bit7 = true;
      latest = axis.latest;
      refusal = axis.refusal;
      key_out = axis.key_out;
    }

-- What a call brings one axis: an accepted cycle with what the line brings and the axis's field record, the beginning of
-- a stay in Operational, or the loss of the line.
pub data Event : Type 0 where
  Cycles : Line → List ℕ → Event
  StayBegins : Event
  LineLost : Event

-- The axis and its drive after an event.
unfoldable pub axis_under : Event → Axis → DriveMeaning → Axis
axis_under (Cycles line bytes) axis drive = cycled_axis line axis (sampled bytes drive)
axis_under StayBegins axis drive = stay_begun axis
axis_under LineLost axis drive = moved line_loss (loss_move axis.state) axis

unfoldable pub drive_under : Event → Axis → DriveMeaning → DriveMeaning
drive_under (Cycles line bytes) axis drive = cycled_drive line axis (sampled bytes drive)
drive_under StayBegins axis drive = drive
drive_under LineLost axis drive = after_move axis.state (loss_move axis.state) drive
