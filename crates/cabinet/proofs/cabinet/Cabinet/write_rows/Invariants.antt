use Rattle.std.proofs.Common.{◌≡◌, ◌*◌, take}
use Rattle.cabinet.specs.Cabinets.{standing}
use Rattle.cabinet.specs.Cycles.{rows_of}
use Rattle.cabinet.proofs.cabinet.Cabinet.write_rows.Given as goal

abbrev pub invariant-loop-axis : goal.invariant-loop-axis
invariant-loop-axis g l = take (13 * l.axis) l.image ≡ rows_of (standing g.B.Bank.meanings l.self) l.axis
