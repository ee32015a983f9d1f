-- The cycle: its refusals, what the line brings, the cabinet after it, and the return image.
use Rattle.std.specs.Prelude.{◌≡◌, ℕ, ◌*◌, Bool, true, false, cond, not, ◌&&◌, List, length, take, drop, replicate, Some, None, Ok, Err, Option, Result, ◌==◌}
use Rattle.std.specs.List.{range_with_len, flat_map}
use Rattle.banks.specs.Lists.{drive_at}
use Rattle.fieldbus.specs.declared.al.Al.{Al}
use Rattle.fieldbus.specs.declared.al.AlState.{AlState}
use Rattle.fieldbus.specs.declared.al.AlState.TheVariants.{Init, PreOp, SafeOp, Op}
use Rattle.fieldbus.specs.declared.frame.Part.{Part}
use Rattle.fieldbus.specs.declared.layout.Layout.{Layout}
use Rattle.fieldbus.specs.declared.watch.Watch.{Watch}
use Rattle.fieldbus.specs.AlStates.{broken_off}
use Rattle.fieldbus.specs.Watches.{heard_from, silent, ran_out}
use Rattle.fieldbus.specs.Frames.{part_in, next_part, after_part}
use Rattle.profile.specs.Status.{row_bytes}
use Rattle.axes.specs.declared.axis.Axis.{Axis}
use Rattle.axes.specs.declared.axis.Line.{Line}
use Rattle.axes.specs.declared.axis.Line.TheVariants.{Acts, RunsOut, Quiet}
use Rattle.axes.specs.Steps.{Event, Cycles}
use Rattle.axes.specs.Seen.{inputs_of}
use Rattle.cabinet.specs.declared.cycle.WrongLength.{WrongLength}
use Rattle.cabinet.specs.declared.cycle.WrongLength.TheVariants as wrong
use Rattle.cabinet.specs.declared.cycle.Heard.{Heard}
use Rattle.cabinet.specs.declared.cycle.Heard.TheVariants.{Frame, RunOut, Nothing}
use Rattle.cabinet.specs.Cabinets.{Standing, axis_count, axis_at, operational, parts_before, stepped, with_line}
use Rattle.cabinet.specs.Requests.{row_length, needed_lengths}

-- The number of a cycle's answer: it was accepted, or which length is wrong.
abbrev pub answer_number : Result (Unit {0}) WrongLength → ℕ
answer_number (Ok accepted) = 0
answer_number (Err wrong.Records) = 1
answer_number (Err wrong.Frame) = 2
answer_number (Err wrong.Image) = 3

-- the bytes of a field record
abbrev pub record_length : ℕ
record_length = 12

-- The answer to records, a frame and a return image of these lengths: a record for each axis, no frame or a whole one, a
-- row for each axis. The first that is wrong is answered.
abbrev pub checked : ℕ → ℕ → ℕ → Standing → Result (Unit {0}) WrongLength
checked records frame image s =
    let needed = needed_lengths s in
    cond (not (records == record_length * axis_count s.drives)) (Err wrong.Records)
    (cond (not (frame == 0) && not (frame == needed.output)) (Err wrong.Frame)
    (cond (not (image == needed.input)) (Err wrong.Image)
    (Ok tt)))

-- What the line brings the cabinet, with a frame or without: only in Operational is a frame acted on, or missed.
abbrev pub heard_by : Bool → Standing → Heard
heard_by came s =
    cond (operational s.al)
    (cond came Frame (cond (ran_out (silent s.watch)) RunOut Nothing))
    Nothing

abbrev pub al_heard : Heard → Al → Al
al_heard Frame al = al
al_heard RunOut al = broken_off
al_heard Nothing al = al

-- In Operational a frame ends the silence, and a cycle without one counts.
abbrev pub watch_heard : Bool → Standing → Watch
watch_heard came s = cond (operational s.al) (cond came (heard_from s.watch) (silent s.watch)) s.watch

-- The cabinet once it has heard what the line brings it; its axes have not stepped yet.
abbrev pub after_hearing : Bool → Standing → Standing
after_hearing came s = with_line (al_heard (heard_by came s) s.al) (watch_heard came s) s

-- What the line brings an axis: of a frame that is acted on, its own part.
abbrev pub line_for : Heard → List ℕ → List Axis → ℕ → Line
line_for Frame frame axes i = Acts (part_in (axis_at axes i).layout (drop (parts_before axes i) frame))
line_for RunOut frame axes i = RunsOut
line_for Nothing frame axes i = Quiet

-- What the reader of a frame gives an axis with a layout, and what is left to read. Without a frame it is not asked.
abbrev pub or_quiet : Option Part → Line
or_quiet None = Quiet
or_quiet (Some part) = Acts part

abbrev pub line_read : Heard → Layout → List ℕ → Line
line_read Frame layout rest = or_quiet (next_part layout rest)
line_read RunOut layout rest = RunsOut
line_read Nothing layout rest = Quiet

abbrev pub rest_read : Heard → Layout → List ℕ → List ℕ
rest_read Frame layout rest = after_part layout rest
rest_read RunOut layout rest = rest
rest_read Nothing layout rest = rest

-- A frame that is acted on has the parts of n axes.
abbrev pub WholeFrame : Heard → List ℕ → List Axis → ℕ → Type 0
WholeFrame Frame frame axes n = length frame ≡ parts_before axes n
WholeFrame RunOut frame axes n = Unit {0}
WholeFrame Nothing frame axes n = Unit {0}

-- The field record of an axis.
abbrev pub record_of : List ℕ → ℕ → List ℕ
record_of records i = take record_length (drop (record_length * i) records)

-- What an accepted cycle brings each axis.
abbrev pub cycle_brings : Heard → List ℕ → List ℕ → Standing → ℕ → Event
cycle_brings heard frame records s i = Cycles (line_for heard frame s.axes i) (record_of records i)

abbrev pub came : List ℕ → Bool
came frame = not (length frame == 0)

-- The cabinet after an accepted cycle.
unfoldable pub after_cycle : List ℕ → List ℕ → Standing → Standing
after_cycle frame records s =
    stepped (cycle_brings (heard_by (came frame) s) frame records s) (after_hearing (came frame) s)

abbrev pub shows_inputs : AlState → Bool
shows_inputs Init = false
shows_inputs PreOp = false
shows_inputs SafeOp = true
shows_inputs Op = true

-- The row of an axis in the return image.
abbrev pub row_of : Standing → ℕ → List ℕ
row_of s i = row_bytes (inputs_of (operational s.al) (axis_at s.axes i) (drive_at s.drives i).held)

-- The rows of the first n axes.
unfoldable pub rows_of : Standing → ℕ → List ℕ
rows_of s n = flat_map (row_of s) (range_with_len 0 n)

-- The return image: in SafeOp and Operational the rows of the axes, otherwise zeros.
abbrev pub image_of : Standing → List ℕ
image_of s =
    let n = axis_count s.drives in
    cond (shows_inputs s.al.state) (rows_of s n) (replicate (row_length * n) 0)

-- What holds after an answer: the new where the cycle was accepted; a refusal leaves the old.
abbrev pub unless_refused : {A : Type 0} → Result (Unit {0}) WrongLength → A → A → A
unless_refused (Ok accepted) new old = new
unless_refused (Err wrong) new old = old
