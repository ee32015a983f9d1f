-- The worked cases, as one statement.
use Rattle.std.specs.Prelude.{◌≡◌, ℕ, ◌/◌, ◌%◌, true, List, [], ◌∷◌, replicate, ℤ, pos, negsuc, Some, None, Ok, Option}
use Rattle.std.specs.Option.{option_map}
use Rattle.drives.specs.declared.held.Held.{Held}
use Rattle.drives.specs.declared.target.Target.{Target}
use Rattle.drives.specs.Meaning.{DriveMeaning, reading_of, refused_by, taken, take_answer}
use Rattle.drives.specs.Refusals.{refusal_code}
use Rattle.windows.specs.Windows.{windowed}
use Rattle.cylinders.specs.Cylinders.{cylinder_meaning}
use Rattle.hoists.specs.Hoists.{hoist_meaning}
use Rattle.drives.specs.Holdings.{at_rest}
use Rattle.drives.specs.Numbers.{word_at}
use Rattle.banks.specs.Lists.{drive_at}
use Rattle.fieldbus.specs.declared.al.AlState.TheVariants.{PreOp}
use Rattle.fieldbus.specs.declared.frame.Part.{Part}
use Rattle.fieldbus.specs.declared.watch.Watch.{Watch}
use Rattle.profile.specs.declared.command.Command.TheVariants.{Shutdown, QuickStop, DisableVoltage}
use Rattle.profile.specs.declared.state.State.TheVariants.{SwitchOnDisabled, Fault}
use Rattle.profile.specs.Commands.{command_of}
use Rattle.axes.specs.declared.axis.Axis.{Axis}
use Rattle.axes.specs.declared.axis.Line.TheVariants.{Acts}
use Rattle.axes.specs.Steps.{stay_begun, Cycles, axis_under, drive_under}
use Rattle.axes.specs.Seen.{statusword_of}
use Rattle.cabinet.specs.declared.request.AlAnswer.{AlAnswer}
use Rattle.cabinet.specs.Cabinets.{Standing, starting_table, axis_at, operational, made}
use Rattle.cabinet.specs.Requests.{after_request, answer_of}
use Rattle.cabinet.specs.Cycles.{after_cycle}

-- A target of position mode.
abbrev pub position : ℕ → Target
position value = record { mode = pos 8; value = pos value }

-- A hoist from 0 to 50,000 that is powered and without trouble, whatever else it holds.
abbrev pub ready_hoist : ℕ → Option Target → ℤ → ℤ → DriveMeaning
ready_hoist speed carried at velocity =
    hoist_meaning (pos 0) (pos 50000) speed
    (record { powered = true; carried = carried; trouble = 0; position = at; velocity = velocity })

-- The drive in a window from 0 to a highest position.
abbrev pub window_to : ℕ → DriveMeaning → DriveMeaning
window_to high drive = windowed (record { low = pos 0; high = pos high }) drive

-- An AL request with no lengths that matter.
abbrev pub asked : ℕ → Standing → Standing
asked control s = after_request control 0 0 s

abbrev pub status_and_code : ℕ → ℕ → AlAnswer
status_and_code status code = record { status = status; code = code }

-- A cabinet in PreOp with two axes in layout 0, whatever else.
abbrev pub in_pre_op : ℕ → Watch → DriveMeaning → DriveMeaning → Standing
in_pre_op number watch one other =
    record {
      number = number;
      al = record { state = PreOp; error = None };
      watch = watch;
      axes = starting_table;
      drives = one ∷ other ∷ [];
    }

-- An axis and its drive after a cycle with a frame that is acted on and carries this part for it.
abbrev pub axis_after : Part → List ℕ → Axis → DriveMeaning → Axis
axis_after part bytes axis drive = axis_under (Cycles (Acts part) bytes) axis drive

abbrev pub drive_after : Part → List ℕ → Axis → DriveMeaning → DriveMeaning
drive_after part bytes axis drive = drive_under (Cycles (Acts part) bytes) axis drive

-- The field record of a hoist at rest at 0, without trouble.
abbrev pub quiet_record : List ℕ
quiet_record = replicate 12 0

-- A frame of layout 0: a controlword, position 1,000, velocity 0, mode 8.
abbrev pub frame_with : ℕ → List ℕ
frame_with controlword =
    (controlword % 256) ∷ (controlword / 256) ∷ 0xE8 ∷ 0x03 ∷ 0 ∷ 0 ∷ 0 ∷ 0 ∷ 0 ∷ 0 ∷ 8 ∷ []

abbrev pub sent : ℕ → Standing → Standing
sent controlword s = after_cycle (frame_with controlword) quiet_record s

abbrev pub unsent : Standing → Standing
unsent s = after_cycle [] quiet_record s

-- A cabinet with delay 2, made over a hoist in a window to 40,000. A cycle takes the axis to Switch on disabled, and
-- three AL requests take the cabinet to Operational.
abbrev pub ready : ℕ → ℕ → Standing
ready number speed =
    after_request 8 0 0 (after_request 4 11 13 (after_request 2 0 0
    (unsent (made number 2 (window_to 40000 (hoist_meaning (pos 0) (pos 50000) speed at_rest) ∷ [])))))

-- Shutdown, then Enable operation twice.
abbrev pub once_sent : ℕ → ℕ → Standing
once_sent number speed = sent 0x0006 (ready number speed)

abbrev pub twice_sent : ℕ → ℕ → Standing
twice_sent number speed = sent 0x000F (once_sent number speed)

abbrev pub thrice_sent : ℕ → ℕ → Standing
thrice_sent number speed = sent 0x000F (twice_sent number speed)

-- The statusword that the one axis shows.
abbrev pub status_shown : Standing → ℕ
status_shown s = statusword_of (operational s.al) (axis_at s.axes 0) (drive_at s.drives 0).held

pub record WorkedCases : Type 0 where
  -- bits 1 and 4 are set, and the lower one names the trouble
  pub inverter_bits_0x0012_are_trouble_0x3210 :
      (lowest highest : ℤ) (speed : ℕ) (h : Held) (bytes : List ℕ)
      → word_at bytes 8 ≡ 0x0012 → (reading_of bytes (hoist_meaning lowest highest speed h)).0 ≡ 0x3210
  pub current_3599_is_trouble_0x7300 :
      (k : ℕ) (h : Held) (bytes : List ℕ) → word_at bytes 0 ≡ 3599 → (reading_of bytes (cylinder_meaning k h)).0 ≡ 0x7300
  pub current_3600_with_k_10_is_position_minus_4000 :
      (h : Held) (bytes : List ℕ) → word_at bytes 0 ≡ 3600 → (reading_of bytes (cylinder_meaning 10 h)).1 ≡ negsuc 3999
  -- 40,000 is the edge of the window and taken
  pub window_to_40000_takes_40000 :
      (speed : ℕ) (carried : Option Target) (at velocity : ℤ)
      → (take_answer (position 40000) (window_to 40000 (ready_hoist speed carried at velocity)) ≡ Ok tt)
      × ((taken (position 40000) (window_to 40000 (ready_hoist speed carried at velocity))).held.carried ≡ Some (position 40000))
  pub window_to_40000_refuses_40001_as_0x0003 :
      (speed : ℕ) (carried : Option Target) (at velocity : ℤ)
      → option_map refusal_code (refused_by (position 40001) (window_to 40000 (ready_hoist speed carried at velocity))) ≡ Some 0x0003
  -- the window lets it pass, and the hoist under it refuses
  pub window_to_60000_refuses_50001_as_0x0102 :
      (speed : ℕ) (carried : Option Target) (at velocity : ℤ)
      → option_map refusal_code (refused_by (position 50001) (window_to 60000 (ready_hoist speed carried at velocity))) ≡ Some 0x0102
  -- Init to SafeOp is no way; the error stands until it is acknowledged
  pub from_init_0x0004_is_0x0011 :
      (number delay : ℕ) (drives : List DriveMeaning)
      → answer_of (asked 0x0004 (made number delay drives)) ≡ status_and_code 0x0011 0x0011
  pub then_0x0002_is_the_same :
      (number delay : ℕ) (drives : List DriveMeaning)
      → answer_of (asked 0x0002 (asked 0x0004 (made number delay drives))) ≡ status_and_code 0x0011 0x0011
  pub then_0x0012_is_pre_op :
      (number delay : ℕ) (drives : List DriveMeaning)
      → answer_of (asked 0x0012 (asked 0x0002 (asked 0x0004 (made number delay drives)))) ≡ status_and_code 0x0002 0x0000
  -- two axes in layout 0 need 22 and 26 bytes
  pub lengths_21_and_26_are_0x001d :
      (number : ℕ) (watch : Watch) (one other : DriveMeaning)
      → answer_of (after_request 0x0004 21 26 (in_pre_op number watch one other)) ≡ status_and_code 0x0012 0x001D
  pub lengths_22_and_25_are_0x001e :
      (number : ℕ) (watch : Watch) (one other : DriveMeaning)
      → answer_of (after_request 0x0004 22 25 (in_pre_op number watch one other)) ≡ status_and_code 0x0012 0x001E
  pub controlword_0x0086_is_shutdown : command_of 0x0086 ≡ Shutdown
  pub controlword_0x000b_is_quick_stop : command_of 0x000B ≡ QuickStop
  pub controlword_0x000d_is_disable_voltage : command_of 0x000D ≡ DisableVoltage
  -- bit 7 held since before the stay is no edge
  pub fault_stays_under_a_first_0x0080 :
      (axis : Axis) (drive : DriveMeaning) (part : Part) (bytes : List ℕ)
      → axis.state ≡ Fault → part.controlword ≡ 0x0080
      → (axis_after part bytes (stay_begun axis) drive).state ≡ Fault
  -- clear, then set: an edge
  pub fault_is_reset_by_0x0000_then_0x0080 :
      (axis : Axis) (drive : DriveMeaning) (first second : Part) (bytes next : List ℕ)
      → axis.state ≡ Fault → first.controlword ≡ 0x0000 → second.controlword ≡ 0x0080
      → (reading_of next (drive_after first bytes axis drive)).0 ≡ 0
      → (axis_after second next (axis_after first bytes axis drive) (drive_after first bytes axis drive)).state ≡ SwitchOnDisabled
  -- a windowed hoist is switched on and follows a target, until the frames stay away
  pub shutdown_shows_0x0221 : (number speed : ℕ) → status_shown (once_sent number speed) ≡ 0x0221
  pub enable_operation_shows_0x0233 : (number speed : ℕ) → status_shown (twice_sent number speed) ≡ 0x0233
  pub enable_operation_again_shows_0x1237 : (number speed : ℕ) → status_shown (thrice_sent number speed) ≡ 0x1237
  pub one_silent_cycle_shows_0x1237 : (number speed : ℕ) → status_shown (unsent (thrice_sent number speed)) ≡ 0x1237
  pub the_second_shows_0x001f : (number speed : ℕ) → status_shown (unsent (unsent (thrice_sent number speed))) ≡ 0x001F
  pub then_al_is_0x0014_with_0x001b :
      (number speed : ℕ) → answer_of (unsent (unsent (thrice_sent number speed))) ≡ status_and_code 0x0014 0x001B
  pub the_third_shows_0x0008 : (number speed : ℕ) → status_shown (unsent (unsent (unsent (thrice_sent number speed)))) ≡ 0x0008
