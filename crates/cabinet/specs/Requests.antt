-- The AL request of a cabinet.
use Rattle.std.specs.Prelude.{ℕ, ◌*◌}
use Rattle.fieldbus.specs.declared.al.Al.{Al}
use Rattle.fieldbus.specs.declared.al.AlState.{AlState}
use Rattle.fieldbus.specs.declared.al.AlState.TheVariants.{Init, PreOp, SafeOp, Op}
use Rattle.fieldbus.specs.declared.al.Lengths.{Lengths}
use Rattle.fieldbus.specs.AlStates.{al_status, al_code, requested}
use Rattle.fieldbus.specs.Watches.{heard_from}
use Rattle.axes.specs.Steps.{StayBegins, LineLost}
use Rattle.cabinet.specs.declared.request.AlAnswer.{AlAnswer}
use Rattle.cabinet.specs.Cabinets.{Standing, axis_count, parts_before, stepped, with_line}

-- the bytes of an axis's row of the return image
abbrev pub row_length : ℕ
row_length = 13

-- The lengths that a cabinet needs: the frame is the sum of the axes' parts, the return image a row for each axis.
abbrev pub needed_lengths : Standing → Lengths
needed_lengths s =
    let n = axis_count s.drives in
    record { output = parts_before s.axes n; input = row_length * n }

-- What a change of AL means for a stay in Operational.
pub data Passage : Type 0 where
  Begins : Passage
  Ends : Passage
  Neither : Passage

-- Entering Operational from SafeOp begins a stay, leaving it ends one.
abbrev pub passage : AlState → AlState → Passage
passage Init Init = Neither
passage Init PreOp = Neither
passage Init SafeOp = Neither
passage Init Op = Neither
passage PreOp Init = Neither
passage PreOp PreOp = Neither
passage PreOp SafeOp = Neither
passage PreOp Op = Neither
passage SafeOp Init = Neither
passage SafeOp PreOp = Neither
passage SafeOp SafeOp = Neither
passage SafeOp Op = Begins
passage Op Init = Ends
passage Op PreOp = Ends
passage Op SafeOp = Ends
passage Op Op = Neither

-- A stay begins with silence 0; the end of one is a loss of the line.
abbrev pub passed : Passage → Standing → Standing
passed Begins s = stepped (λ i. StayBegins) (with_line s.al (heard_from s.watch) s)
passed Ends s = stepped (λ i. LineLost) s
passed Neither s = s

-- AL after the request.
abbrev pub al_after : ℕ → ℕ → ℕ → Standing → Al
al_after control output input s = requested control (record { output = output; input = input }) (needed_lengths s) s.al

-- The cabinet after an AL request.
unfoldable pub after_request : ℕ → ℕ → ℕ → Standing → Standing
after_request control output input s =
    let al = al_after control output input s in
    passed (passage s.al.state al.state) (with_line al s.watch s)

-- A request answers AL status and code.
abbrev pub answer_of : Standing → AlAnswer
answer_of s = record { status = al_status s.al; code = al_code s.al }
