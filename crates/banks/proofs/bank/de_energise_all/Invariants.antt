use Rattle.std.proofs.Common.{◌≡◌, ◌++◌, map, take, drop}
use Rattle.drives.specs.Meaning.{de_energised}
use Rattle.banks.proofs.bank.de_energise_all.Given as goal

-- the first i de-energised, the others as they were
abbrev pub invariant-loop-number : goal.invariant-loop-number
invariant-loop-number g l =
    let before = g.B.Bank.meanings l.initial.bank in
    g.B.Bank.meanings l.bank ≡ map de_energised (take l.number before) ++ drop l.number before
