use Rattle.cabinet.specs.Cabinets.{standing}
use Rattle.cabinet.proofs.Cycling.{CycleAt}
use Rattle.cabinet.proofs.cabinet.Cabinet.cycle_each.Given as goal

abbrev pub invariant-loop-number : goal.invariant-loop-number
invariant-loop-number g l =
    CycleAt l.heard l.frame l.records (standing g.B.Bank.meanings l.initial.self) (standing g.B.Bank.meanings l.self)
    l.number-iterator.a.start l.number-iterator.a.end l.reader.rest.now l.number-iterator.b.rest.now
