-- The commands, and how a controlword gives one.
use Rattle.std.specs.Prelude.{ℕ, Bool, cond, not, eqb}
use Rattle.std.specs.Int.Bits.{bit_and}
use Rattle.profile.specs.declared.command.Command.{Command}
use Rattle.profile.specs.declared.command.Command.TheVariants.{Shutdown, SwitchOn, EnableOperation, QuickStop, DisableVoltage}

abbrev pub command_number : Command → ℕ
command_number Shutdown = 0
command_number SwitchOn = 1
command_number EnableOperation = 2
command_number QuickStop = 3
command_number DisableVoltage = 4

-- a bit of a number, given as its weight, is clear
abbrev pub is_clear : ℕ → ℕ → Bool
is_clear weight n = eqb (bit_and n weight) 0

-- Bits 1, 2, 0 and 3, in this order: the first that is clear decides.
unfoldable pub command_of : ℕ → Command
command_of controlword =
    let low = bit_and controlword 15 in
    cond (is_clear 2 low) DisableVoltage
    (cond (is_clear 4 low) QuickStop
    (cond (is_clear 1 low) Shutdown
    (cond (is_clear 8 low) SwitchOn
    EnableOperation)))

-- Bit 7 resets a fault where it rises.
unfoldable pub reset_bit : ℕ → Bool
reset_bit controlword = not (is_clear 0x80 controlword)
