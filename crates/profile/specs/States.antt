-- The states, and their patterns in the statusword.
use Rattle.std.specs.Prelude.{ℕ, ◌≡◌, List, [], ◌∷◌}
use Rattle.profile.specs.declared.state.State.{State}
use Rattle.profile.specs.declared.state.State.TheVariants.{NotReady, SwitchOnDisabled, Ready, SwitchedOn, OperationEnabled, QuickStopActive, FaultReactionActive, Fault}

abbrev pub state_number : State → ℕ
state_number NotReady = 0
state_number SwitchOnDisabled = 1
state_number Ready = 2
state_number SwitchedOn = 3
state_number OperationEnabled = 4
state_number QuickStopActive = 5
state_number FaultReactionActive = 6
state_number Fault = 7

abbrev pub state_pattern : State → ℕ
state_pattern NotReady = 0x00
state_pattern SwitchOnDisabled = 0x40
state_pattern Ready = 0x21
state_pattern SwitchedOn = 0x23
state_pattern OperationEnabled = 0x27
state_pattern QuickStopActive = 0x07
state_pattern FaultReactionActive = 0x0F
state_pattern Fault = 0x08

-- the patterns as a table, by the state's number
abbrev pub patterns : List ℕ
patterns = 0x00 ∷ 0x40 ∷ 0x21 ∷ 0x23 ∷ 0x27 ∷ 0x07 ∷ 0x0F ∷ 0x08 ∷ []

-- No other state has the pattern.
abbrev pub ToldApart : State → ℕ → Type 0
ToldApart state pattern = (other : State) → state_pattern other ≡ pattern → other ≡ state
