-- A fault, and bit 7.
use Rattle.std.proofs.Common.{◌≡◌, ℕ, false, List, refl}
use Rattle.drives.specs.Meaning.{DriveMeaning, reading_of}
use Rattle.fieldbus.specs.declared.frame.Part.{Part}
use Rattle.profile.specs.declared.state.State.TheVariants.{SwitchOnDisabled, Fault}
use Rattle.profile.specs.Commands.{reset_bit}
use Rattle.axes.specs.declared.axis.Axis.{Axis}
use Rattle.axes.specs.Steps.{stay_begun, acted, cycle_move, axis_under}
use Rattle.worked.specs.Cases.{axis_after}

module _ (axis : Axis) (drive : DriveMeaning) (part : Part) (bytes : List ℕ) where
  pub held_bit_stays : axis.state ≡ Fault → part.controlword ≡ 0x0080 → (axis_after part bytes (stay_begun axis) drive).state ≡ Fault
  unfolding axis_under cycle_move acted reset_bit
  held_bit_stays fault word = rw (fault, word) refl

  pub clear_bit_stays : axis.state ≡ Fault → part.controlword ≡ 0x0000 → (axis_after part bytes axis drive).state ≡ Fault
  unfolding axis_under cycle_move acted reset_bit
  clear_bit_stays fault word = rw (fault, word) refl

  pub clear_bit_remembered : part.controlword ≡ 0x0000 → (axis_after part bytes axis drive).bit7 ≡ false
  unfolding axis_under acted reset_bit
  clear_bit_remembered word = rw word refl

  pub edge_resets : axis.state ≡ Fault → axis.bit7 ≡ false → part.controlword ≡ 0x0080 → (reading_of bytes drive).0 ≡ 0 → (axis_after part bytes axis drive).state ≡ SwitchOnDisabled
  unfolding axis_under cycle_move acted reset_bit
  edge_resets fault clear word well = rw (fault, clear, word, well) refl
