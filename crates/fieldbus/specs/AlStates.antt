-- AL states and errors with their numbers, AL status, and the AL request, after ETG.1000.6.
use Rattle.std.specs.Prelude.{ℕ, ◌+◌, ◌/◌, ◌%◌, Bool, cond, not, ◌&&◌, is_some, Some, None, Ok, Err, Option, Result, ◌==◌}
use Rattle.fieldbus.specs.declared.al.Al.{Al}
use Rattle.fieldbus.specs.declared.al.AlState.{AlState}
use Rattle.fieldbus.specs.declared.al.AlState.TheVariants.{Init, PreOp, SafeOp, Op}
use Rattle.fieldbus.specs.declared.al.AlError.{AlError}
use Rattle.fieldbus.specs.declared.al.AlError.TheVariants.{InvalidStateChange, UnknownState, BootstrapNotSupported, SyncManagerWatchdog, InvalidOutputConfiguration, InvalidInputConfiguration}
use Rattle.fieldbus.specs.declared.al.Lengths.{Lengths}

abbrev pub al_state_number : AlState → ℕ
al_state_number Init = 1
al_state_number PreOp = 2
al_state_number SafeOp = 4
al_state_number Op = 8

abbrev pub al_error_number : AlError → ℕ
al_error_number InvalidStateChange = 0x0011
al_error_number UnknownState = 0x0012
al_error_number BootstrapNotSupported = 0x0013
al_error_number SyncManagerWatchdog = 0x001B
al_error_number InvalidOutputConfiguration = 0x001D
al_error_number InvalidInputConfiguration = 0x001E

abbrev pub al_start : Al
al_start = record { state = Init; error = None }

-- the state's number, and 16 with the error flag
abbrev pub al_status : Al → ℕ
al_status al = al_state_number al.state + cond (is_some al.error) 16 0

abbrev pub error_code : Option AlError → ℕ
error_code None = 0
error_code (Some error) = al_error_number error

abbrev pub al_code : Al → ℕ
al_code al = error_code al.error

-- The state of a number. Number 3 is bootstrap.
abbrev pub al_state_of_number : ℕ → Result AlState AlError
al_state_of_number number =
    cond (number == 1) (Ok Init)
    (cond (number == 2) (Ok PreOp)
    (cond (number == 3) (Err BootstrapNotSupported)
    (cond (number == 4) (Ok SafeOp)
    (cond (number == 8) (Ok Op)
    (Err UnknownState)))))

-- The state that bits 0-3 of a control word want.
abbrev pub wanted_state : ℕ → Result AlState AlError
wanted_state control = al_state_of_number (control % 16)

-- From PreOp to SafeOp both lengths have to be right, the output length first.
abbrev pub lengths_checked : Lengths → Lengths → Result AlState AlError
lengths_checked offered needed =
    cond (not (offered.output == needed.output)) (Err InvalidOutputConfiguration)
    (cond (not (offered.input == needed.input)) (Err InvalidInputConfiguration)
    (Ok SafeOp))

-- From the present state to the wanted one: downwards always, upwards one state at a time.
abbrev pub way_to : AlState → AlState → Lengths → Lengths → Result AlState AlError
way_to Init Init offered needed = Ok Init
way_to Init PreOp offered needed = Ok PreOp
way_to Init SafeOp offered needed = Err InvalidStateChange
way_to Init Op offered needed = Err InvalidStateChange
way_to PreOp Init offered needed = Ok Init
way_to PreOp PreOp offered needed = Ok PreOp
way_to PreOp SafeOp offered needed = lengths_checked offered needed
way_to PreOp Op offered needed = Err InvalidStateChange
way_to SafeOp Init offered needed = Ok Init
way_to SafeOp PreOp offered needed = Ok PreOp
way_to SafeOp SafeOp offered needed = Ok SafeOp
way_to SafeOp Op offered needed = Ok Op
way_to Op Init offered needed = Ok Init
way_to Op PreOp offered needed = Ok PreOp
way_to Op SafeOp offered needed = Ok SafeOp
way_to Op Op offered needed = Ok Op

-- What is granted: the wanted state where there is a way to it.
abbrev pub granted : Al → Lengths → Lengths → Result AlState AlError → Result AlState AlError
granted al offered needed (Ok wanted) = way_to al.state wanted offered needed
granted al offered needed (Err error) = Err error

-- A state granted is entered without an error; a failure keeps the state and sets the flag.
abbrev pub following : Al → Result AlState AlError → Al
following al (Ok state) = record { state = state; error = None }
following al (Err error) = record { state = al.state; error = Some error }

-- Bit 4 of a control word acknowledges an error.
abbrev pub acknowledges : ℕ → Bool
acknowledges control = control / 16 % 2 == 1

-- AL after a request. With the error flag set and not acknowledged nothing changes.
abbrev pub requested : ℕ → Lengths → Lengths → Al → Al
requested control offered needed al =
    cond (is_some al.error && not (acknowledges control)) al
    (following al (granted al offered needed (wanted_state control)))

-- AL once the watch has run out.
abbrev pub broken_off : Al
broken_off = record { state = SafeOp; error = Some SyncManagerWatchdog }
