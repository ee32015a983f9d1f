use Rattle.cabinet.specs.Cabinets.{standing}
use Rattle.cabinet.specs.Events.{brought}
use Rattle.cabinet.proofs.Steps.{FirstStep}
use Rattle.cabinet.proofs.cabinet.Cabinet.step_each.Given as goal

abbrev pub invariant-loop-number : goal.invariant-loop-number
invariant-loop-number g l =
    let meanings = g.B.Bank.meanings in
    FirstStep l.number (λ i. brought l.event) (standing meanings l.initial.self) (standing meanings l.self)
