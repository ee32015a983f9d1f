-- How a cabinet stands, its making, and one step of each axis.
use Rattle.std.specs.Prelude.{◌≡◌, ℕ, ◌<◌, min, Bool, true, false, List, ◌++◌, map, length, take, drop, replicate, sum_by, slice_index_or, slice_set}
use Rattle.std.specs.List.{range_with_len}
use Rattle.drives.specs.Meaning.{DriveMeaning, de_energised}
use Rattle.banks.specs.Lists.{drive_at, changed}
use Rattle.fieldbus.specs.declared.al.Al.{Al}
use Rattle.fieldbus.specs.declared.al.AlState.{AlState}
use Rattle.fieldbus.specs.declared.al.AlState.TheVariants.{Init, PreOp, SafeOp, Op}
use Rattle.fieldbus.specs.declared.watch.Watch.{Watch}
use Rattle.fieldbus.specs.AlStates.{al_start}
use Rattle.fieldbus.specs.Watches.{watch_set}
use Rattle.fieldbus.specs.Frames.{part_length}
use Rattle.axes.specs.declared.axis.Axis.{Axis}
use Rattle.axes.specs.Steps.{axis_at_start, Event, axis_under, drive_under}
use Rattle.cabinet.specs.declared.cabinet.Cabinet.{Cabinet}

-- How a cabinet stands, over whatever type of bank.
pub record Standing : Type 0 where
  pub number : ℕ
  pub al : Al
  pub watch : Watch
  -- the table of the axis records; from the number of axes on they are as they were made
  pub axes : List Axis
  -- the drives of the bank
  pub drives : List DriveMeaning

-- The standing of a cabinet whose bank means these drives.
abbrev pub standing : {B : Type 0} → (B → List DriveMeaning) → Cabinet B → Standing
standing meanings cabinet =
    record {
      number = cabinet.number;
      al = cabinet.al;
      watch = cabinet.watch;
      axes = cabinet.table.axes;
      drives = meanings cabinet.bank;
    }

abbrev pub most_axes : ℕ
most_axes = 8

-- The axes are the bank's drives, the first 8 of a larger one.
abbrev pub axis_count : List DriveMeaning → ℕ
axis_count drives = min (length drives) most_axes

abbrev pub axis_at : List Axis → ℕ → Axis
axis_at axes i = slice_index_or axes i axis_at_start

abbrev pub starting_table : List Axis
starting_table = replicate most_axes axis_at_start

-- The cabinet as it is made over a bank: every drive without power, Init, no cycle passed.
abbrev pub made : ℕ → ℕ → List DriveMeaning → Standing
made number delay drives =
    record {
      number = number;
      al = al_start;
      watch = watch_set delay;
      axes = starting_table;
      drives = map de_energised drives;
    }

abbrev pub is_operational : AlState → Bool
is_operational Init = false
is_operational PreOp = false
is_operational SafeOp = false
is_operational Op = true

abbrev pub operational : Al → Bool
operational al = is_operational al.state

-- The bytes that the parts of the first axes have together: where the part of the next one begins.
abbrev pub parts_before : List Axis → ℕ → ℕ
parts_before axes i = sum_by (λ axis. part_length axis.layout) (take i axes)

-- The first n, each from its number; the others as they were.
unfoldable pub first_made : {A : Type 0} → ℕ → (ℕ → A) → List A → List A
first_made n make xs = map make (range_with_len 0 n) ++ drop n xs

-- Each axis, and its drive, after what a call brings it.
abbrev pub axis_step : (ℕ → Event) → List Axis → List DriveMeaning → ℕ → Axis
axis_step brings axes drives i = axis_under (brings i) (axis_at axes i) (drive_at drives i)

abbrev pub drive_step : (ℕ → Event) → List Axis → List DriveMeaning → ℕ → DriveMeaning
drive_step brings axes drives i = drive_under (brings i) (axis_at axes i) (drive_at drives i)

-- The first n axes and their drives have stepped; drives without an axis are left alone.
abbrev pub axes_after : ℕ → (ℕ → Event) → List Axis → List DriveMeaning → List Axis
axes_after n brings axes drives = first_made n (axis_step brings axes drives) axes

abbrev pub drives_after : ℕ → (ℕ → Event) → List Axis → List DriveMeaning → List DriveMeaning
drives_after n brings axes drives = first_made n (drive_step brings axes drives) drives

-- The cabinet once every axis has stepped under what a call brings it.
abbrev pub stepped : (ℕ → Event) → Standing → Standing
stepped brings s =
    record {
      number = s.number;
      al = s.al;
      watch = s.watch;
      axes = axes_after (axis_count s.drives) brings s.axes s.drives;
      drives = drives_after (axis_count s.drives) brings s.axes s.drives;
    }

-- The same cabinet with another AL and another watch.
abbrev pub with_line : Al → Watch → Standing → Standing
with_line al watch s = record { number = s.number; al = al; watch = watch; axes = s.axes; drives = s.drives }

-- One axis and its drive have stepped, and nothing else has changed.
pub record OneStep (i : ℕ) (event : Event) (before after : Standing) : Type 0 where
  pub in_table : i < length before.axes
  pub number_stays : after.number ≡ before.number
  pub al_stays : after.al ≡ before.al
  pub watch_stays : after.watch ≡ before.watch
  pub axis_steps : after.axes ≡ slice_set before.axes i (axis_under event (axis_at before.axes i) (drive_at before.drives i))
  pub drive_steps : after.drives ≡ changed (drive_under event (axis_at before.axes i)) before.drives i
