-- The moves of an axis, and what entering a state does to its drive. A move is the state entered, none where it stays.
use Rattle.std.specs.Prelude.{ℕ, Bool, true, false, cond, not, ◌&&◌, Some, None, Option, ◌==◌}
use Rattle.drives.specs.Meaning.{DriveMeaning, energised, de_energised, held_still}
use Rattle.profile.specs.declared.command.Command.{Command}
use Rattle.profile.specs.declared.command.Command.TheVariants.{Shutdown, SwitchOn, EnableOperation, QuickStop, DisableVoltage}
use Rattle.profile.specs.declared.state.State.{State}
use Rattle.profile.specs.declared.state.State.TheVariants.{NotReady, SwitchOnDisabled, Ready, SwitchedOn, OperationEnabled, QuickStopActive, FaultReactionActive, Fault}
use Rattle.profile.specs.Commands.{command_of, reset_bit}
use Rattle.axes.specs.declared.axis.Axis.{Axis}

abbrev pub is_ready : State → Bool
is_ready NotReady = false
is_ready SwitchOnDisabled = false
is_ready Ready = true
is_ready SwitchedOn = false
is_ready OperationEnabled = false
is_ready QuickStopActive = false
is_ready FaultReactionActive = false
is_ready Fault = false

abbrev pub is_enabled : State → Bool
is_enabled NotReady = false
is_enabled SwitchOnDisabled = false
is_enabled Ready = false
is_enabled SwitchedOn = false
is_enabled OperationEnabled = true
is_enabled QuickStopActive = false
is_enabled FaultReactionActive = false
is_enabled Fault = false

abbrev pub is_fault : State → Bool
is_fault NotReady = false
is_fault SwitchOnDisabled = false
is_fault Ready = false
is_fault SwitchedOn = false
is_fault OperationEnabled = false
is_fault QuickStopActive = false
is_fault FaultReactionActive = false
is_fault Fault = true

-- The move that state and command decide together. With a key out, Switch on disabled stays.
abbrev pub command_move : Bool → State → Command → Option State
command_move key NotReady command = None
command_move key SwitchOnDisabled Shutdown = cond key None (Some Ready)
command_move key SwitchOnDisabled SwitchOn = None
command_move key SwitchOnDisabled EnableOperation = None
command_move key SwitchOnDisabled QuickStop = None
command_move key SwitchOnDisabled DisableVoltage = None
command_move key Ready Shutdown = None
command_move key Ready SwitchOn = Some SwitchedOn
command_move key Ready EnableOperation = Some SwitchedOn
command_move key Ready QuickStop = None
command_move key Ready DisableVoltage = Some SwitchOnDisabled
command_move key SwitchedOn Shutdown = Some Ready
command_move key SwitchedOn SwitchOn = None
command_move key SwitchedOn EnableOperation = Some OperationEnabled
command_move key SwitchedOn QuickStop = None
command_move key SwitchedOn DisableVoltage = Some SwitchOnDisabled
command_move key OperationEnabled Shutdown = Some Ready
command_move key OperationEnabled SwitchOn = Some SwitchedOn
command_move key OperationEnabled EnableOperation = None
command_move key OperationEnabled QuickStop = Some QuickStopActive
command_move key OperationEnabled DisableVoltage = Some SwitchOnDisabled
command_move key QuickStopActive Shutdown = None
command_move key QuickStopActive SwitchOn = None
command_move key QuickStopActive EnableOperation = None
command_move key QuickStopActive QuickStop = None
command_move key QuickStopActive DisableVoltage = Some SwitchOnDisabled
command_move key FaultReactionActive command = None
command_move key Fault command = None

-- Trouble enters Fault reaction active; without it, what would be otherwise.
abbrev pub unless_trouble : ℕ → Option State → Option State
unless_trouble trouble otherwise = cond (trouble == 0) otherwise (Some FaultReactionActive)

-- The move that an axis makes on its own account in an accepted cycle.
abbrev pub own_move : ℕ → State → Option State
own_move trouble NotReady = unless_trouble trouble (Some SwitchOnDisabled)
own_move trouble SwitchOnDisabled = unless_trouble trouble None
own_move trouble Ready = unless_trouble trouble None
own_move trouble SwitchedOn = unless_trouble trouble None
own_move trouble OperationEnabled = unless_trouble trouble None
own_move trouble QuickStopActive = unless_trouble trouble None
own_move trouble FaultReactionActive = Some Fault
own_move trouble Fault = None

-- The move on the loss of the line.
abbrev pub loss_move : State → Option State
loss_move NotReady = None
loss_move SwitchOnDisabled = None
loss_move Ready = Some SwitchOnDisabled
loss_move SwitchedOn = Some FaultReactionActive
loss_move OperationEnabled = Some FaultReactionActive
loss_move QuickStopActive = Some FaultReactionActive
loss_move FaultReactionActive = None
loss_move Fault = None

-- A fault is reset where bit 7 is set and was clear before, and there is no trouble.
abbrev pub resets : ℕ → ℕ → Axis → Bool
resets controlword trouble axis =
    is_fault axis.state && ((reset_bit controlword && not axis.bit7) && trouble == 0)

-- The move under a controlword: the reset, or else the command is followed.
abbrev pub follow_move : ℕ → ℕ → Axis → Option State
follow_move controlword trouble axis =
    cond (resets controlword trouble axis) (Some SwitchOnDisabled)
    (command_move axis.key_out axis.state (command_of controlword))

-- What entering a state from another does to the drive: power comes from Ready to Switched on, Switched on otherwise,
-- Quick stop active and Fault reaction active hold, Switch on disabled, Ready and Fault take the power off.
abbrev pub entering : State → State → DriveMeaning → DriveMeaning
entering from NotReady drive = drive
entering from SwitchOnDisabled drive = de_energised drive
entering from Ready drive = de_energised drive
entering from SwitchedOn drive = cond (is_ready from) (energised drive) (held_still drive)
entering from OperationEnabled drive = drive
entering from QuickStopActive drive = held_still drive
entering from FaultReactionActive drive = held_still drive
entering from Fault drive = de_energised drive
