use Rattle.std.proofs.Common.{refl, ap}
use Rattle.cylinders.specs.Cylinders.{current_trouble, current_position}
use Rattle.hoists.specs.Inverters.{inverter_trouble, lowest_named}
use Rattle.profile.specs.Commands.{command_of, reset_bit}
use Rattle.profile.specs.Status.{status_of}
use Rattle.axes.specs.Steps.{acted, acted_drive, cycle_move, axis_under, drive_under}
use Rattle.cabinet.specs.Cabinets.{first_made}
use Rattle.cabinet.specs.Requests.{after_request}
use Rattle.cabinet.specs.Cycles.{after_cycle}
use Rattle.worked.specs.Cases.{axis_after, drive_after}
use Rattle.worked.proofs.Resets.{held_bit_stays, clear_bit_stays, clear_bit_remembered, edge_resets}
use Rattle.worked.proofs.worked_cases_hold.Goals as goal

pub returns : goal.returns
unfolding lowest_named command_of reset_bit status_of acted acted_drive cycle_move axis_under drive_under first_made after_request after_cycle
returns c =
    record {
      inverter_bits_0x0012_are_trouble_0x3210 = λ lowest highest speed h bytes is. ap inverter_trouble is;
      current_3599_is_trouble_0x7300 = λ k h bytes is. ap current_trouble is;
      current_3600_with_k_10_is_position_minus_4000 = λ h bytes is. ap (current_position 10) is;
      window_to_40000_takes_40000 = λ speed carried at velocity. (refl, refl);
      window_to_40000_refuses_40001_as_0x0003 = λ speed carried at velocity. refl;
      window_to_60000_refuses_50001_as_0x0102 = λ speed carried at velocity. refl;
      from_init_0x0004_is_0x0011 = λ number delay drives. refl;
      then_0x0002_is_the_same = λ number delay drives. refl;
      then_0x0012_is_pre_op = λ number delay drives. refl;
      lengths_21_and_26_are_0x001d = λ number watch one other. refl;
      lengths_22_and_25_are_0x001e = λ number watch one other. refl;
      controlword_0x0086_is_shutdown = refl;
      controlword_0x000b_is_quick_stop = refl;
      controlword_0x000d_is_disable_voltage = refl;
      fault_stays_under_a_first_0x0080 = λ axis drive part bytes fault word. held_bit_stays axis drive part bytes fault word;
      fault_is_reset_by_0x0000_then_0x0080 = λ axis drive first second bytes next fault clear set well.
          edge_resets (axis_after first bytes axis drive) (drive_after first bytes axis drive) second next
          (clear_bit_stays axis drive first bytes fault clear) (clear_bit_remembered axis drive first bytes clear) set well;
      shutdown_shows_0x0221 = λ number speed. refl;
      enable_operation_shows_0x0233 = λ number speed. refl;
      enable_operation_again_shows_0x1237 = λ number speed. refl;
      one_silent_cycle_shows_0x1237 = λ number speed. refl;
      the_second_shows_0x001f = λ number speed. refl;
      then_al_is_0x0014_with_0x001b = λ number speed. refl;
      the_third_shows_0x0008 = λ number speed. refl;
    }
