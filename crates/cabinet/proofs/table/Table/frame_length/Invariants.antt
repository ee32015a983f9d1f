use Rattle.std.proofs.Common.{◌≡◌, ◌*◌, ◌≤◌}
use Rattle.cabinet.specs.Cabinets.{parts_before}
use Rattle.cabinet.proofs.table.Table.frame_length.Given as goal

abbrev pub invariant-loop-axis : goal.invariant-loop-axis
invariant-loop-axis l = (l.length ≡ parts_before l.axis-items l.axis-index) × (l.length ≤ 11 * l.axis-index)
